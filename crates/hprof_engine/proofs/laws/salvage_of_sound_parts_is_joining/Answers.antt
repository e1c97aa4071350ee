use Rattle.hprof_engine.proofs.WholeParts.{sound_joins}
use Rattle.hprof_engine.proofs.laws.salvage_of_sound_parts_is_joining.Goals as goal

pub returns : goal.returns
returns c = sound_joins
