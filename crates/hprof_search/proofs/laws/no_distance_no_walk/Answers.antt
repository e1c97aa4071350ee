use Rattle.hprof_search.proofs.Forth.{no_walk, some_walk}
use Rattle.hprof_search.proofs.laws.no_distance_no_walk.Goals as goal

pub returns-clause-none : goal.returns-clause-none
returns-clause-none g c = λ node nodes none walk. no_walk g.W.Walks.starts g.W.Walks.steps node nodes none walk

pub returns-clause-some : goal.returns-clause-some
returns-clause-some g c = λ node distance has. some_walk g.W.Walks.starts g.W.Walks.steps node distance has
