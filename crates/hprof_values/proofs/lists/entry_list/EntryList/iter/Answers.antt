use Rattle.std.proofs.Common.{arith}
use Rattle.hprof_values.proofs.EntryLists.{length-entries}
use Rattle.hprof_values.proofs.lists.entry_list.EntryList.iter.Goals as goal

pub returns-clause-few : goal.returns-clause-few
returns-clause-few g c =
    let list = c.args.self.now in
    let few = list.few in omega (arith, length-entries list.ids g.E.ListEntry.KIND list.len list.bytes.now)
