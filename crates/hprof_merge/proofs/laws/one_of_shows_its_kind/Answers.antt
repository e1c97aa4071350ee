use Rattle.hprof_merge.proofs.EitherShows.{shows_first, shows_second}
use Rattle.hprof_merge.proofs.laws.one_of_shows_its_kind.Goals as goal

pub returns-clause-first : goal.returns-clause-first
returns-clause-first g c = shows_first g.A.RowCursor.shown g.B.RowCursor.shown g.A.RowCursor.goes g.B.RowCursor.goes

pub returns-clause-second : goal.returns-clause-second
returns-clause-second g c = shows_second g.A.RowCursor.shown g.B.RowCursor.shown g.A.RowCursor.goes g.B.RowCursor.goes
