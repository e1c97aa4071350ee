use Rattle.hprof_reach.proofs.reach.Reach.distance_by.Goals as goal

pub returns : goal.returns
returns g c = λ told ids facts is. c.distance.ensures (ids, facts, told) is
