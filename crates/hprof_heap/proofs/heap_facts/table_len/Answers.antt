use Rattle.hprof_heap.specs.HeapFacts.{facts_of}
use Rattle.hprof_heap.proofs.heap_facts.table_len.Goals as goal

pub returns : goal.returns
unfolding facts_of
returns c = c.len.ensures
