use Rattle.hprof_search.proofs.Forth.{no_walk, some_walk}
use Rattle.hprof_reach.specs.Reaching.{IsStart, IsStep}
use Rattle.hprof_reach.proofs.laws.no_distance_no_walk.Goals as goal

pub returns-clause-none : goal.returns-clause-none
returns-clause-none c = λ ids facts id nodes none walk. no_walk (IsStart facts) (IsStep ids facts) id nodes none walk

pub returns-clause-some : goal.returns-clause-some
returns-clause-some c = λ ids facts id distance has. some_walk (IsStart facts) (IsStep ids facts) id distance has
