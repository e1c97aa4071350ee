use Rattle.std.proofs.lemmas.Result.{IfOk-weaker}
use Rattle.hprof_reach.proofs.reach.Reach.path_by.Goals as goal

pub returns : goal.returns
returns g c = IfOk-weaker c.path.result _ _ (λ path walks told ids facts is. walks (ids, facts, told) is) c.path.ensures
