use Rattle.hprof_heap.specs.HeapFacts.{facts_of}
use Rattle.hprof_heap.proofs.names.name_fact.Goals as goal

pub returns : goal.returns
unfolding facts_of
returns c = c.name.ensures
