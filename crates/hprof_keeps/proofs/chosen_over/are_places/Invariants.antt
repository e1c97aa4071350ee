use Rattle.std.proofs.Common.{ℕ, ◌<◌, get_or}
use Rattle.hprof_retained.specs.Tree.{count_of}
use Rattle.hprof_keeps.proofs.chosen_over.are_places.Given as goal

abbrev pub invariant-loop-place : goal.invariant-loop-place
invariant-loop-place l =
    (k : ℕ) → k < l.place-index → (0 < get_or l.places k 0) × (get_or l.places k 0 < count_of l.retained)
