use Rattle.hprof_rows.proofs.Conflicts.{IsConsistent-same, IsLeastConflict-same, one_least, no_conflict}
use Rattle.hprof_heap.proofs.laws.conflicts_are_of_the_set.Goals as goal

pub returns-clause-consistent : goal.returns-clause-consistent
returns-clause-consistent c = IsConsistent-same

pub returns-clause-least : goal.returns-clause-least
returns-clause-least c = IsLeastConflict-same

pub returns-clause-one : goal.returns-clause-one
returns-clause-one c = one_least

pub returns-clause-none : goal.returns-clause-none
returns-clause-none c = λ facts key agree least. no_conflict facts key agree least.conflict
