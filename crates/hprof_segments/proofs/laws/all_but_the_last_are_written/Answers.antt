use Rattle.hprof_segments.proofs.Takes.{taken_none, taken_all, taken_front}
use Rattle.hprof_segments.proofs.laws.all_but_the_last_are_written.Goals as goal

pub returns-clause-none : goal.returns-clause-none
returns-clause-none c = taken_none

pub returns-clause-last : goal.returns-clause-last
returns-clause-last c = taken_all

pub returns-clause-prefix : goal.returns-clause-prefix
returns-clause-prefix c = taken_front
