use Rattle.hprof_text.proofs.Fronts.{one_units}
use Rattle.hprof_text.proofs.laws.one_list_of_units.Goals as goal

pub returns : goal.returns
returns c = one_units
