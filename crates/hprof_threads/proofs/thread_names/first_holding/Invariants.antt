use Rattle.hprof_heap.specs.HeapFacts.{facts_of}
use Rattle.hprof_naming.specs.ClassNames.{AreClassNames}
use Rattle.hprof_threads.proofs.FirstHolding.{GoesOn}
use Rattle.hprof_threads.proofs.thread_names.first_holding.Given as goal

abbrev pub invariant-loop-value : goal.invariant-loop-value
invariant-loop-value l = AreClassNames (facts_of l.heap) l.classes → GoesOn (facts_of l.heap) l.values l.value-index
