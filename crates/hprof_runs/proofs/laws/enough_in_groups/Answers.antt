use Rattle.hprof_runs.proofs.Groups.{enough_both, enough_same}
use Rattle.hprof_runs.proofs.laws.enough_in_groups.Goals as goal

pub returns-clause-same : goal.returns-clause-same
returns-clause-same c = enough_same

pub returns-clause-both : goal.returns-clause-both
returns-clause-both c = enough_both
