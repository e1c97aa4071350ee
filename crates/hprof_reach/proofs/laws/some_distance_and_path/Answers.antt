use Rattle.hprof_reach.proofs.SomeReach.{some_distance, some_path}
use Rattle.hprof_reach.proofs.laws.some_distance_and_path.Goals as goal

pub returns-clause-distance : goal.returns-clause-distance
returns-clause-distance c = λ ids facts id agree. some_distance ids facts agree id

pub returns-clause-path : goal.returns-clause-path
returns-clause-path c = λ ids facts id agree. some_path ids facts agree id
