use Rattle.hprof_search.proofs.OneWalk.{one_distance, one_path}
use Rattle.hprof_reach.specs.Reaching.{IsStart, IsStep}
use Rattle.hprof_reach.proofs.laws.one_distance_and_path.Goals as goal

pub returns-clause-distance : goal.returns-clause-distance
returns-clause-distance c = λ ids facts id one other is too. one_distance (IsStart facts) (IsStep ids facts) id one other is too

pub returns-clause-path : goal.returns-clause-path
returns-clause-path c = λ ids facts id one other is too. one_path (IsStart facts) (IsStep ids facts) id one other is too
