use Rattle.hprof_merge.proofs.Later.{shows_ascend, shows_below}
use Rattle.hprof_merge.proofs.laws.cursors_ascend.Goals as goal

pub returns-clause-rows : goal.returns-clause-rows
returns-clause-rows g c = shows_ascend g.C.RowCursor.shown g.C.RowCursor.goes g.met.C.AscendingCursor.rises

pub returns-clause-next : goal.returns-clause-next
returns-clause-next g c = shows_below g.C.RowCursor.shown g.C.RowCursor.goes g.met.C.AscendingCursor.rises
