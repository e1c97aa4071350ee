use Rattle.hprof_stream.proofs.Parts.{states_one}
use Rattle.hprof_engine.proofs.laws.a_part_states_one_thing.Goals as goal

pub returns : goal.returns
returns c = states_one
