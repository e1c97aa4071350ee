use Rattle.hprof_diff.specs.OneChanges.{difference_exists, one_difference}
use Rattle.hprof_diff.proofs.laws.one_difference.Goals as goal

pub returns-clause-exists : goal.returns-clause-exists
returns-clause-exists c =
    λ ids other_ids facts other_facts old new is is_too. difference_exists old new ids other_ids facts other_facts is is_too

pub returns-clause-once : goal.returns-clause-once
returns-clause-once c = one_difference
