use Rattle.hprof_edges.specs.LeftOut.{IsKept}
use Rattle.hprof_edges.proofs.KeptDecided.{kept_decided}
use Rattle.hprof_reach.proofs.SomeReach.{some_distance_by, some_path_by}
use Rattle.hprof_reach.proofs.laws.some_kept_distance_and_path.Goals as goal

pub returns-clause-distance : goal.returns-clause-distance
returns-clause-distance c = λ ids facts fields id agree.
    some_distance_by ids facts agree (IsKept fields facts) (kept_decided ids facts agree fields) id

pub returns-clause-path : goal.returns-clause-path
returns-clause-path c = λ ids facts fields id agree.
    some_path_by ids facts agree (IsKept fields facts) (kept_decided ids facts agree fields) id
