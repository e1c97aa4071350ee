use Rattle.hprof_heap.specs.HeapFacts.{facts_of}
use Rattle.hprof_threads.proofs.stack_frame.frame_fact.Goals as goal

pub returns : goal.returns
unfolding facts_of
returns c = c.frame.ensures
