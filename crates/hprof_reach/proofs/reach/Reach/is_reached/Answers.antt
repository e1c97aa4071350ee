use Rattle.hprof_reach.proofs.reach.Reach.is_reached.Goals as goal

pub returns : goal.returns
returns c = c.is_reached_by.ensures tt
