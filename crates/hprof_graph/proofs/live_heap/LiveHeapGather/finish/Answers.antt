use Rattle.hprof_graph.specs.LiveHeap.{outcome_of}
use Rattle.hprof_graph.proofs.live_heap.LiveHeapGather.finish.Goals as goal

pub returns-clause-answer : goal.returns-clause-answer
unfolding outcome_of
returns-clause-answer c = c.finish.ensures.answer
