use Rattle.std.proofs.Common.{rules}
use Rattle.hprof_reports.proofs.check.is_bad_name.Goals as goal

pub returns-in-Name : goal.returns-in-Name
returns-in-Name c = search rules

pub returns-in_default : goal.returns-in_default
returns-in_default c = search rules
