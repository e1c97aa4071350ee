use Rattle.std.proofs.Common.{refl}
use Rattle.hprof_keeps.proofs.kept.roots_kept.Goals as goal

pub returns-clause-kept : goal.returns-clause-kept
returns-clause-kept c = λ ids facts is sum. (refl, sum, c.in_ok-below.ensures.children ids facts is)
