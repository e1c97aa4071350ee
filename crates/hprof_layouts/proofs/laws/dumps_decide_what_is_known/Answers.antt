use Rattle.hprof_layouts.proofs.KnownPlans.{knows_same}
use Rattle.hprof_layouts.proofs.laws.dumps_decide_what_is_known.Goals as goal

pub returns : goal.returns
returns c = knows_same
