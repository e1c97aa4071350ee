use Rattle.hprof_search.proofs.OneWalk.{one_distance}
use Rattle.hprof_search.proofs.laws.one_distance.Goals as goal

pub returns : goal.returns
returns g c = λ node one other is too. one_distance g.W.Walks.starts g.W.Walks.steps node one other is too
