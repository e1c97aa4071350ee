use Rattle.hprof_stream.proofs.Faults.{states_once}
use Rattle.hprof_stream.proofs.laws.bytes_state_one_thing.Goals as goal

pub returns : goal.returns
returns c = states_once
