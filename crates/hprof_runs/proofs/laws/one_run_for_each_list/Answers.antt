use Rattle.std.proofs.Common.{sym}
use Rattle.hprof_runs.proofs.Added.{runs_count}
use Rattle.hprof_runs.proofs.laws.one_run_for_each_list.Goals as goal

pub returns : goal.returns
returns g c = λ runs lists holds. sym (runs_count holds.all runs.runs.items lists holds.each)
