use Rattle.std.proofs.Common.{length, arith, rules}
use Rattle.hprof_values.proofs.IdLists.{length-ids, no_more_ids}
use Rattle.hprof_values.proofs.lists.ids.IdList.iter.Goals as goal

pub returns-clause-all : goal.returns-clause-all
returns-clause-all c = search rules

pub returns-clause-few : goal.returns-clause-few
returns-clause-few c =
    let list = c.args.self.now in
    let few = list.few in omega (arith, length-ids list.ids list.bytes.now, no_more_ids list.ids (length list.bytes.now))
