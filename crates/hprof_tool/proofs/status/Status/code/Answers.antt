use Rattle.std.proofs.Common.{rules}
use Rattle.hprof_tool.proofs.status.Status.code.Goals as goal

pub returns-in-Done : goal.returns-in-Done
returns-in-Done c = search rules

pub returns-in-NotUnderstood : goal.returns-in-NotUnderstood
returns-in-NotUnderstood c = search rules

pub returns-in-Refused : goal.returns-in-Refused
returns-in-Refused c = search rules
