use Rattle.std.proofs.Common.{rules}
use Rattle.hprof_heap.proofs.gatherer.Gatherer.heap.Goals as goal

pub returns-in-Clean : goal.returns-in-Clean
returns-in-Clean c = search rules

pub returns-in-Empty : goal.returns-in-Empty
returns-in-Empty c = search rules
