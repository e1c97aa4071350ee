use Rattle.hprof_facts.proofs.Standing.{stands_or_fails}
use Rattle.hprof_facts.proofs.laws.a_resumed_reader_stands_at_its_place.Goals as goal

pub returns : goal.returns
returns g c = λ origin rest was passed others reader header tells has states.
    stands_or_fails g.R.Source.left g.R.Source.health g.R.Source.pulls origin was rest tells header passed others states reader has
