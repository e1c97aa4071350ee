use Rattle.hprof_facts.proofs.FromStart.{from_start}
use Rattle.hprof_facts.proofs.laws.from_the_start_it_ends_as_read_part.Goals as goal

pub returns : goal.returns
returns g c = from_start g.R.Source.left g.R.Source.health g.R.Source.pulls
