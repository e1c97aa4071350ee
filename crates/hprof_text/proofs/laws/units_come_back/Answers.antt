use Rattle.hprof_text.proofs.Fronts.{units_found}
use Rattle.hprof_text.proofs.laws.units_come_back.Goals as goal

pub returns : goal.returns
returns c = units_found
