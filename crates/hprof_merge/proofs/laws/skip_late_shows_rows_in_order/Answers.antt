use Rattle.hprof_merge.proofs.Skipping.{all_in_order}
use Rattle.hprof_merge.proofs.laws.skip_late_shows_rows_in_order.Goals as goal

pub returns : goal.returns
returns g c = all_in_order g.C.RowCursor.shown g.C.RowCursor.goes
