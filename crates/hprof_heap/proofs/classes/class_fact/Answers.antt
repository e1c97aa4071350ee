use Rattle.hprof_heap.specs.HeapFacts.{facts_of, size_of}
use Rattle.hprof_heap.proofs.classes.class_fact.Goals as goal

pub returns-clause-value : goal.returns-clause-value
unfolding facts_of
returns-clause-value c = c.class_near.ensures.value

pub returns-clause-lists : goal.returns-clause-lists
unfolding size_of
returns-clause-lists c = c.class_near.ensures.lists
