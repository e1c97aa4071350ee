use Rattle.hprof_why.proofs.Stretches.{stretch_alike, stretch_ends}
use Rattle.hprof_why.proofs.laws.a_stretch_is_longest.Goals as goal

pub returns-clause-alike : goal.returns-clause-alike
returns-clause-alike c = stretch_alike

pub returns-clause-longest : goal.returns-clause-longest
returns-clause-longest c = stretch_ends
