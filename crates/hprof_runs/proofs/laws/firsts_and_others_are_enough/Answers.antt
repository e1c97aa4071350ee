use Rattle.hprof_runs.proofs.Groups.{runs_enough}
use Rattle.hprof_runs.proofs.Picked.{enough}
use Rattle.hprof_runs.proofs.laws.firsts_and_others_are_enough.Goals as goal

pub returns-clause-both : goal.returns-clause-both
returns-clause-both c = enough

pub returns-clause-runs : goal.returns-clause-runs
returns-clause-runs c = runs_enough
