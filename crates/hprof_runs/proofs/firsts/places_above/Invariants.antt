use Rattle.std.proofs.Common.{◌≡◌, ◌++◌, ℕ, List, length}
use Rattle.hprof_merge.specs.Late.{in_order_above}
use Rattle.hprof_runs.specs.declared.place.Place.{Place}
use Rattle.hprof_runs.specs.Places.{rows_lying}
use Rattle.hprof_runs.proofs.firsts.places_above.Given as goal

abbrev pub invariant-loop-place : goal.invariant-loop-place
invariant-loop-place l = record {
  above : (bytes : List ℕ) → in_order_above l.key (rows_lying bytes l.rest) ≡ in_order_above l.key (rows_lying bytes l.places);
  behind : (front : List Place) × (l.places ≡ front ++ l.rest);
}

abbrev pub decreases-loop-place : goal.decreases-loop-place
decreases-loop-place l = length l.rest
