use Rattle.std.proofs.Common.{rules}
use Rattle.hprof_reports.proofs.check.yes_or_no.Goals as goal

pub returns-else-answer : goal.returns-else-answer
returns-else-answer c = search rules

pub returns-then-answer : goal.returns-then-answer
returns-then-answer c = search rules
