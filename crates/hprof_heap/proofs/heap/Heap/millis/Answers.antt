use Rattle.std.proofs.Common.{rules}
use Rattle.hprof_heap.proofs.heap.Heap.millis.Goals as goal

pub returns : goal.returns
returns c = search rules
