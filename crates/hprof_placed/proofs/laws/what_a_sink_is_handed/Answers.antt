use Rattle.hprof_placed.proofs.Listing.{handed_before, handed_up_to, handed_whole}
use Rattle.hprof_placed.proofs.laws.what_a_sink_is_handed.Goals as goal

pub returns-clause-whole : goal.returns-clause-whole
returns-clause-whole g c = λ limits was is came summary handed reads.
    handed_whole g.R.Source.left g.R.Source.health g.R.Source.pulls limits was is came summary handed reads

pub returns-clause-fault : goal.returns-clause-fault
returns-clause-fault g c = λ limits was is came fault handed reads of_input.
    handed_before g.R.Source.left g.R.Source.health g.R.Source.pulls limits was is came fault handed reads of_input

pub returns-clause-refused : goal.returns-clause-refused
returns-clause-refused g c = λ limits was is came fault handed reads.
    handed_up_to g.R.Source.left g.R.Source.health g.R.Source.pulls limits was is came fault handed reads
