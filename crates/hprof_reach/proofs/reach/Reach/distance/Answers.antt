use Rattle.hprof_reach.proofs.reach.Reach.distance.Goals as goal

pub returns : goal.returns
returns c = c.distance_by.ensures tt
