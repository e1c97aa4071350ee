use Rattle.hprof_heap.specs.HeapFacts.{facts_of}
use Rattle.hprof_heap.proofs.heap_facts.class_name.Goals as goal

pub returns : goal.returns
unfolding facts_of
returns c = c.class_name.ensures
