use Rattle.hprof_facts.proofs.Agreeing.{pulled}
use Rattle.hprof_facts.proofs.laws.pulled_by_the_bytes.Goals as goal

pub returns : goal.returns
returns g c = λ origin rest was is result given tells ends of_bytes.
    pulled g.R.Source.left g.R.Source.health g.R.Source.pulls origin was rest tells is result given ends of_bytes
