use Rattle.hprof_text.proofs.Fronts.{one_bytes}
use Rattle.hprof_text.proofs.laws.one_list_of_bytes.Goals as goal

pub returns : goal.returns
returns c = one_bytes
