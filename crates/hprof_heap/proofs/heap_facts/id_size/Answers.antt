use Rattle.hprof_rows.proofs.Order.{order_agrees}
use Rattle.hprof_heap.specs.HeapFacts.{facts_of, size_of}
use Rattle.hprof_heap.proofs.heap_facts.id_size.Goals as goal

pub returns-clause-value : goal.returns-clause-value
unfolding size_of
returns-clause-value c = c.ids.ensures.value

pub returns-clause-fit : goal.returns-clause-fit
unfolding facts_of size_of
returns-clause-fit c = c.ids.ensures.sound.fit

pub returns-clause-ordered : goal.returns-clause-ordered
unfolding facts_of
returns-clause-ordered c = c.ids.ensures.sound.ordered

pub returns-clause-agree : goal.returns-clause-agree
unfolding facts_of
returns-clause-agree c = order_agrees (facts_of c.args.heap.now) c.ids.ensures.sound.ordered
