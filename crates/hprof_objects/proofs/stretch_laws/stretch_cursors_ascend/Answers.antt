use Rattle.hprof_merge.proofs.Later.{shows_ascend}
use Rattle.hprof_objects.specs.StretchCursor.{GoesOn, stretch_shown}
use Rattle.hprof_objects.proofs.stretch_laws.stretch_cursors_ascend.Goals as goal

pub returns : goal.returns
returns g c =
    shows_ascend stretch_shown (GoesOn g.R.Source.left g.R.Source.health g.R.Source.pulls)
    (λ old new row next goes is next_is. goes.above row next is next_is)
