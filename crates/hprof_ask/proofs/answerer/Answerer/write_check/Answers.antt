use Rattle.hprof_heap.specs.HeapFacts.{facts_of}
use Rattle.hprof_ask.proofs.answerer.Answerer.write_check.Goals as goal

pub returns-in-Ok-clause-bytes : goal.returns-in-Ok-clause-bytes
unfolding facts_of
returns-in-Ok-clause-bytes g c = let it = c.in-Ok.ensures.bytes in (it.0, it.1, it.2)

pub returns-in-Err-clause-bytes : goal.returns-in-Err-clause-bytes
unfolding facts_of
returns-in-Err-clause-bytes g c = let it = c.in-Err.ensures.bytes in (it.0, it.1, it.2)
