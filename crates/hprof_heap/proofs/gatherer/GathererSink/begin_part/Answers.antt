use Rattle.std.proofs.Common.{rules}
use Rattle.hprof_heap.proofs.gatherer.GathererSink.begin_part.Goals as goal

pub returns-in-None : goal.returns-in-None
returns-in-None c = search rules

pub returns-in-Some : goal.returns-in-Some
returns-in-Some c = search rules

pub returns-in-Some-2 : goal.returns-in-Some-2
returns-in-Some-2 c = search rules

pub invariant_of-self : goal.invariant_of-self
invariant_of-self c = search rules
