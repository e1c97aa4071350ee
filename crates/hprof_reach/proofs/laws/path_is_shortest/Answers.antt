use Rattle.hprof_search.proofs.Forth.{path_walks, path_counted, path_shortest, path_least}
use Rattle.hprof_reach.specs.Reaching.{IsStart, IsStep}
use Rattle.hprof_reach.proofs.laws.path_is_shortest.Goals as goal

pub returns-clause-walk : goal.returns-clause-walk
returns-clause-walk c = λ ids facts id nodes path. path_walks (IsStart facts) (IsStep ids facts) id nodes path

pub returns-clause-counted : goal.returns-clause-counted
returns-clause-counted c = λ ids facts id distance nodes path has.
    path_counted (IsStart facts) (IsStep ids facts) id distance nodes path has

pub returns-clause-shortest : goal.returns-clause-shortest
returns-clause-shortest c = λ ids facts id nodes other path walk.
    path_shortest (IsStart facts) (IsStep ids facts) id nodes other path walk

pub returns-clause-least : goal.returns-clause-least
returns-clause-least c = λ ids facts id place nodes path below.
    path_least (IsStart facts) (IsStep ids facts) id place nodes path below
