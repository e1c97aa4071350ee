use Rattle.std.proofs.Common.{rules}
use Rattle.hprof_values.proofs.number.bits_at.Goals as goal

pub returns-in-Boolean : goal.returns-in-Boolean
returns-in-Boolean c = search rules
