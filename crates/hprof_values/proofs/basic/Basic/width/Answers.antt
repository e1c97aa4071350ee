use Rattle.std.proofs.Common.{rules}
use Rattle.hprof_values.proofs.basic.Basic.width.Goals as goal

pub returns-in-Boolean : goal.returns-in-Boolean
returns-in-Boolean c = search rules
