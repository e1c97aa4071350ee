use Rattle.hprof_runs.proofs.AllRows.{all_come, below_come, least_come}
use Rattle.hprof_runs.proofs.laws.merged_rows_are_all.Goals as goal

pub returns-clause-all : goal.returns-clause-all
returns-clause-all g c =
    all_come g.C.RowCursor.shown g.C.RowCursor.goes g.C.KnownCursor.comes_to g.met.C.KnownCursor.known

pub returns-clause-least : goal.returns-clause-least
returns-clause-least g c =
    least_come g.C.RowCursor.shown g.C.RowCursor.goes g.C.KnownCursor.comes_to g.met.C.KnownCursor.known

pub returns-clause-below : goal.returns-clause-below
returns-clause-below g c = λ old new lists came key bound front come shows low small union.
    below_come g.C.RowCursor.shown g.C.RowCursor.goes g.C.KnownCursor.comes_to g.met.C.KnownCursor.known old new lists came key
    come shows low
    bound front small union
