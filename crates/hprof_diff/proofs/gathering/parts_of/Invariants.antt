use Rattle.std.proofs.Common.{length}
use Rattle.hprof_heap.specs.HeapFacts.{facts_of}
use Rattle.hprof_diff.proofs.Keeping.{ArePartsTo}
use Rattle.hprof_diff.proofs.gathering.parts_of.Given as goal

abbrev pub invariant-loop-row : goal.invariant-loop-row
invariant-loop-row l = ArePartsTo (facts_of l.heap) l.rows l.parts.items l.rest

abbrev pub decreases-loop-row : goal.decreases-loop-row
decreases-loop-row l = length l.rest
