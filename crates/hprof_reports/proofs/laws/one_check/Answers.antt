use Rattle.hprof_reports.specs.OneCheck.{one_check}
use Rattle.hprof_reports.proofs.laws.one_check.Goals as goal

pub returns : goal.returns
returns c = one_check
