use Rattle.hprof_facts.proofs.GivenFirst.{given_first}
use Rattle.hprof_facts.proofs.laws.given_facts_are_the_first.Goals as goal

pub returns : goal.returns
returns g c = λ origin rest was given reader header all tells has states.
    given_first g.R.Source.left g.R.Source.health g.R.Source.pulls origin was rest tells given reader header all has states
