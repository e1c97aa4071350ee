use Rattle.hprof_heap.specs.HeapFacts.{facts_of}
use Rattle.hprof_naming.proofs.FirstNamed.{GoesOn}
use Rattle.hprof_naming.proofs.object_text.first_named.Given as goal

abbrev pub invariant-loop-value : goal.invariant-loop-value
invariant-loop-value l = GoesOn (facts_of l.heap) l.word l.values l.value-index
