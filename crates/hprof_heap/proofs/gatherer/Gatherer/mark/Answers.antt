use Rattle.std.proofs.Common.{rules}
use Rattle.hprof_heap.proofs.gatherer.Gatherer.mark.Goals as goal

pub returns-in_default : goal.returns-in_default
returns-in_default c = search rules

pub returns : goal.returns
returns c = search rules
