use Rattle.hprof_stream.proofs.ReadItems.{reads_behind}
use Rattle.hprof_stream.proofs.laws.items_are_counted.Goals as goal

pub returns : goal.returns
returns c = reads_behind
