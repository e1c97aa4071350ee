use Rattle.hprof_search.proofs.OneWalk.{one_path}
use Rattle.hprof_search.proofs.laws.one_path.Goals as goal

pub returns : goal.returns
returns g c = λ node one other is too. one_path g.W.Walks.starts g.W.Walks.steps node one other is too
