use Rattle.hprof_engine.proofs.OneAnswer.{saves_once}
use Rattle.hprof_engine.proofs.laws.what_is_saved_comes_to_one_thing.Goals as goal

pub returns : goal.returns
returns c = saves_once
