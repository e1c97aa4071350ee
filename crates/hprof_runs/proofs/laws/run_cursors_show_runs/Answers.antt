use Rattle.hprof_runs.specs.AnyRows.{run_known}
use Rattle.hprof_runs.specs.RunCursor.{ComesTo, GoesOn, run_shown}
use Rattle.hprof_runs.proofs.AllRows.{known_all}
use Rattle.hprof_runs.proofs.laws.run_cursors_show_runs.Goals as goal

pub returns : goal.returns
returns g c = λ old new rows came.
    known_all run_shown (GoesOn g.S.Target.written) (ComesTo g.S.Target.written) (run_known g.S.Target.written) came old new rows
