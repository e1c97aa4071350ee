use Rattle.hprof_reach.proofs.reach.Reach.is_reached_by.Goals as goal

pub returns : goal.returns
returns g c = λ told ids facts is. c.is_found.ensures (ids, facts, told) is
