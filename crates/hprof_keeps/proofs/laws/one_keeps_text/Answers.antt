use Rattle.hprof_keeps.proofs.OneKeeps.{keeps_once}
use Rattle.hprof_keeps.proofs.SomeKeeps.{keeps_exists}
use Rattle.hprof_keeps.proofs.laws.one_keeps_text.Goals as goal

pub returns-clause-some : goal.returns-clause-some
returns-clause-some c = keeps_exists

pub returns-clause-one : goal.returns-clause-one
returns-clause-one c = keeps_once
