use Rattle.hprof_merge.proofs.Later.{later_above}
use Rattle.hprof_merge.proofs.laws.later_rows_are_above.Goals as goal

pub returns : goal.returns
returns g c = later_above g.C.RowCursor.shown g.C.RowCursor.goes g.met.C.AscendingCursor.rises
