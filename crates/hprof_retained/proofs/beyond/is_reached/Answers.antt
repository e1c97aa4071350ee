use Rattle.hprof_retained.specs.Border.{starts_of, steps_of}
use Rattle.hprof_retained.proofs.Crossing.{reached_if_distance}
use Rattle.hprof_retained.proofs.beyond.is_reached.Goals as goal

pub returns : goal.returns
returns c = λ crossing is.
    reached_if_distance (starts_of crossing) (steps_of crossing) c.args.node c.is_found.result (c.is_found.ensures crossing is)
