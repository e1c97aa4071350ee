use Rattle.hprof_stream.proofs.Longer.{longer_input}
use Rattle.hprof_stream.proofs.laws.a_longer_input.Goals as goal

pub returns : goal.returns
returns c = longer_input
