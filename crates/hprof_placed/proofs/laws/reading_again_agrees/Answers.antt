use Rattle.hprof_placed.proofs.Again.{again}
use Rattle.hprof_placed.proofs.laws.reading_again_agrees.Goals as goal

pub returns : goal.returns
returns g c = again g.R.Source.left g.R.Source.health g.R.Source.pulls g.Q.Source.left g.Q.Source.health g.Q.Source.pulls
