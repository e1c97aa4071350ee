use Rattle.std.proofs.Common.{rules}
use Rattle.hprof_values.proofs.number.values_len.Goals as goal

pub returns-in-Boolean-clause-len : goal.returns-in-Boolean-clause-len
returns-in-Boolean-clause-len c = search rules
