use Rattle.std.proofs.Common.{rules}
use Rattle.hprof_values.proofs.number.ids_len.Goals as goal

pub returns-in-Eight-clause-len : goal.returns-in-Eight-clause-len
returns-in-Eight-clause-len c = search rules
