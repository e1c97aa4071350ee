use Rattle.std.proofs.Common.{length}
use Rattle.hprof_heap.specs.HeapFacts.{facts_of}
use Rattle.hprof_diff.proofs.Keeping.{AreKeptTo}
use Rattle.hprof_diff.proofs.label_counts.LabelCounts.of_parts.Given as goal

abbrev pub invariant-loop-first : goal.invariant-loop-first
invariant-loop-first l = AreKeptTo (facts_of l.heap) l.parts l.counts l.rest

abbrev pub decreases-loop-first : goal.decreases-loop-first
decreases-loop-first l = length l.rest
