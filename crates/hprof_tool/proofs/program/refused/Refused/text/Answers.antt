use Rattle.std.proofs.Common.{rules}
use Rattle.hprof_tool.proofs.program.refused.Refused.text.Goals as goal

pub returns-in-Open : goal.returns-in-Open
returns-in-Open c = search rules
