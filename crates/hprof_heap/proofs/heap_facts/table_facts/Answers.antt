use Rattle.hprof_heap.specs.HeapFacts.{facts_of, size_of}
use Rattle.hprof_heap.proofs.heap_facts.table_facts.Goals as goal

pub returns-clause-all : goal.returns-clause-all
unfolding facts_of
returns-clause-all c = c.rows.ensures.all

pub returns-clause-ids : goal.returns-clause-ids
unfolding size_of
returns-clause-ids c = c.rows.ensures.ids
