use Rattle.std.proofs.Common.{rules}
use Rattle.hprof_values.proofs.basic.Basic.code.Goals as goal

pub returns-in-Int : goal.returns-in-Int
returns-in-Int c = search rules
