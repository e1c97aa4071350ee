use Rattle.std.proofs.Common.{◌++◌}
use Rattle.hprof_placed.proofs.reading.note_place.Goals as goal

pub returns-in-Some-clause-holds : goal.returns-in-Some-clause-holds
returns-in-Some-clause-holds g c = λ limits earlier header bytes more facts read held.
    let behind = c.in-Some.ensures.behind limits (bytes ++ more) facts read in
    c.note.ensures.holds limits earlier header bytes more behind.0 behind.1 facts held behind.2 behind.3
