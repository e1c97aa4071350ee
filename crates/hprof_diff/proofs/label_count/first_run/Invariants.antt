use Rattle.std.proofs.Common.{◌≤◌, ◌∷◌, length}
use Rattle.hprof_diff.proofs.Keeping.{IsRunTo}
use Rattle.hprof_diff.proofs.label_count.first_run.Given as goal

abbrev pub invariant-loop-part : goal.invariant-loop-part
invariant-loop-part l = record { run : IsRunTo (l.fn.first ∷ l.parts) l.sum l.rest; shorter : length l.rest ≤ length l.parts }

abbrev pub decreases-loop-part : goal.decreases-loop-part
decreases-loop-part l = length l.rest
