use Rattle.std.proofs.Common.{rules}
use Rattle.hprof_heap.proofs.heap.Heap.ids.Goals as goal

pub returns-clause-sound : goal.returns-clause-sound
returns-clause-sound c = search rules

pub returns-clause-value : goal.returns-clause-value
returns-clause-value c = search rules
