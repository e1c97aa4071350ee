use Rattle.hprof_objects.proofs.StretchCursors.{shows_all, shows_first}
use Rattle.hprof_objects.proofs.stretch_laws.stretch_cursors_show_stretches.Goals as goal

pub returns-clause-all : goal.returns-clause-all
returns-clause-all g c = shows_all g.R.Source.left g.R.Source.health g.R.Source.pulls

pub returns-clause-first : goal.returns-clause-first
returns-clause-first g c = shows_first g.R.Source.left g.R.Source.health g.R.Source.pulls
