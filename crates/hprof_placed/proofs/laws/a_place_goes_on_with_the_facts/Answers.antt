use Rattle.hprof_placed.proofs.Lasting.{last_noted, last_taken}
use Rattle.hprof_placed.proofs.laws.a_place_goes_on_with_the_facts.Goals as goal

pub returns-clause-noted : goal.returns-clause-noted
returns-clause-noted c = last_noted

pub returns-clause-taken : goal.returns-clause-taken
returns-clause-taken c = last_taken
