use Rattle.std.proofs.Common.{rules}
use Rattle.hprof_heap.proofs.gatherer.Gatherer.new.Goals as goal

pub returns : goal.returns
returns c = search rules
