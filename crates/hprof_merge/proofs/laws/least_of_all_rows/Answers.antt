use Rattle.hprof_merge.proofs.Later.{least_later}
use Rattle.hprof_merge.proofs.laws.least_of_all_rows.Goals as goal

pub returns : goal.returns
returns g c = least_later g.C.RowCursor.shown g.C.RowCursor.goes g.met.C.AscendingCursor.rises
