-- The exit status of the process.
use Rattle.std.specs.Prelude.{ℕ}
use Rattle.hprof_tool.specs.declared.status.Status.{Status}
use Rattle.hprof_tool.specs.declared.status.Status.TheVariants.{Done, Refused, NotUnderstood}

abbrev pub code_of : Status → ℕ
code_of Done = 0
code_of Refused = 1
code_of NotUnderstood = 2
