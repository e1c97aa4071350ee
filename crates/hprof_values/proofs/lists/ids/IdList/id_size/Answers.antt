use Rattle.std.proofs.Common.{rules}
use Rattle.hprof_values.proofs.lists.ids.IdList.id_size.Goals as goal

pub returns : goal.returns
returns c = search rules
