use Rattle.hprof_by_label.proofs.OneRetained as once
use Rattle.hprof_by_label.proofs.SomeRetained as some
use Rattle.hprof_by_label.proofs.laws.one_retained_text.Goals as goal

pub returns-clause-some : goal.returns-clause-some
returns-clause-some c = some.retained_exists

pub returns-clause-one : goal.returns-clause-one
returns-clause-one c = once.retained_once
