use Rattle.hprof_runs.proofs.AllRows.{known_all, known_so_far}
use Rattle.hprof_runs.proofs.laws.known_cursors_show_rows.Goals as goal

pub returns-clause-all : goal.returns-clause-all
returns-clause-all g c = λ old new rows came.
    known_all g.C.RowCursor.shown g.C.RowCursor.goes g.C.KnownCursor.comes_to g.met.C.KnownCursor.known came old new rows

pub returns-clause-so_far : goal.returns-clause-so_far
returns-clause-so_far g c = λ old new rows came.
    known_so_far g.C.RowCursor.shown g.C.RowCursor.goes g.C.KnownCursor.comes_to g.met.C.KnownCursor.known came old new rows

pub returns-clause-first : goal.returns-clause-first
returns-clause-first g c = g.met.C.KnownCursor.known.first
