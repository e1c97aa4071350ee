use Rattle.std.proofs.Common.{ℕ, List, length}
use Rattle.hprof_text.proofs.Fronts.{Front}
use Rattle.hprof_text.proofs.decoding.is_modified.Given as goal

abbrev pub invariant-loop-after : goal.invariant-loop-after
invariant-loop-after l = (units : List ℕ) × Front units l.bytes l.rest

abbrev pub decreases-loop-after : goal.decreases-loop-after
decreases-loop-after l = length l.rest
