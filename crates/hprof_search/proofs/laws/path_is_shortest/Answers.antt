use Rattle.hprof_search.proofs.Forth.{path_walks, path_counted, path_shortest, path_least}
use Rattle.hprof_search.proofs.laws.path_is_shortest.Goals as goal

pub returns-clause-walk : goal.returns-clause-walk
returns-clause-walk g c = λ node nodes path. path_walks g.W.Walks.starts g.W.Walks.steps node nodes path

pub returns-clause-counted : goal.returns-clause-counted
returns-clause-counted g c = λ node distance nodes path has. path_counted g.W.Walks.starts g.W.Walks.steps node distance nodes path has

pub returns-clause-shortest : goal.returns-clause-shortest
returns-clause-shortest g c = λ node nodes other path walk. path_shortest g.W.Walks.starts g.W.Walks.steps node nodes other path walk

pub returns-clause-least : goal.returns-clause-least
returns-clause-least g c = λ node place nodes path below. path_least g.W.Walks.starts g.W.Walks.steps node place nodes path below
