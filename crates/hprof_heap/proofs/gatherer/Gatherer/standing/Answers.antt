use Rattle.std.proofs.Common.{rules}
use Rattle.hprof_heap.proofs.gatherer.Gatherer.standing.Goals as goal

pub returns-then-is_none : goal.returns-then-is_none
returns-then-is_none c = search rules

pub returns-then-self : goal.returns-then-self
returns-then-self c = search rules

pub returns-then-self-2 : goal.returns-then-self-2
returns-then-self-2 c = search rules

pub returns : goal.returns
returns c = search rules
