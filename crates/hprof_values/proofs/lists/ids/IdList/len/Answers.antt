use Rattle.hprof_values.proofs.IdLists.{length-by}
use Rattle.hprof_values.proofs.lists.ids.IdList.len.Goals as goal

pub returns : goal.returns
returns c = length-by c.args.self.now.ids _ c.args.self.now.bytes.now c.width.ensures
