use Rattle.std.proofs.lemmas.Result.{IfOk-weaker}
use Rattle.hprof_reach.proofs.reach.Reach.path.Goals as goal

pub returns : goal.returns
returns c = IfOk-weaker c.path_by.result _ _ (λ path of. of tt) c.path_by.ensures
