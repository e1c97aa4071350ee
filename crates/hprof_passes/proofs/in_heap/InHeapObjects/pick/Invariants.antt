use Rattle.std.proofs.Common.{drop}
use Rattle.hprof_heap.specs.HeapFacts.{facts_of, size_of}
use Rattle.hprof_passes.specs.Passing.{objects_among}
use Rattle.hprof_passes.proofs.LookedUp.{LooksUp}
use Rattle.hprof_passes.proofs.in_heap.InHeapObjects.pick.Given as goal

abbrev pub invariant-loop-id : goal.invariant-loop-id
invariant-loop-id g l =
    LooksUp g.T.ObjectSink.takes (size_of l.heap) (objects_among (facts_of l.heap)) l.wanted l.fn.sink l.sink (drop l.id-index l.wanted)
