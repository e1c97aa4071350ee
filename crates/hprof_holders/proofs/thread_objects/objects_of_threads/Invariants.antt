use Rattle.std.proofs.Common.{ℕ, ◌<◌, get_or}
use Rattle.hprof_heap.specs.HeapFacts.{facts_of}
use Rattle.hprof_holders.specs.ThreadObjects.{HasThreadObjects}
use Rattle.hprof_holders.proofs.thread_objects.objects_of_threads.Given as goal

abbrev pub invariant-loop-serial : goal.invariant-loop-serial
invariant-loop-serial l =
    (k : ℕ) → k < l.serial-index → HasThreadObjects (facts_of l.heap) l.nodes.items (get_or l.serial-items k 0)
