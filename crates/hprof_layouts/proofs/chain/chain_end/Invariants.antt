use Rattle.std.proofs.Common.{◌-◌}
use Rattle.hprof_heap.specs.HeapFacts.{facts_of}
use Rattle.hprof_layouts.proofs.Walks.{Watching}
use Rattle.hprof_layouts.proofs.chain.chain_end.Given as goal

abbrev pub invariant-loop-at : goal.invariant-loop-at
invariant-loop-at l = Watching (facts_of l.fn.heap) l.fn.class l.at l.passed l.classes l.mark.class

abbrev pub decreases-loop-at : goal.decreases-loop-at
decreases-loop-at l = l.classes - l.passed
