use Rattle.hprof_merge.proofs.Skipping.{all_below}
use Rattle.hprof_merge.proofs.laws.refuse_late_shows_all.Goals as goal

pub returns : goal.returns
returns g c = all_below g.C.RowCursor.shown g.C.RowCursor.goes
