use Rattle.hprof_heap.specs.HeapFacts.{facts_of}
use Rattle.hprof_suspects.proofs.AloneSoFar.{AreAloneTo}
use Rattle.hprof_suspects.proofs.alone.alone_of.Given as goal

-- the places so far are marked
abbrev pub invariant-loop-place : goal.invariant-loop-place
invariant-loop-place l = AreAloneTo (facts_of l.heap) l.retained l.labels l.alone.items l.place
