use Rattle.std.proofs.Common.{◌≡◌, ◌≤◌, ℕ, length}
use Rattle.hprof_objects.specs.Wanted.{Rises, is_among}
use Rattle.hprof_objects.proofs.wanted.from_key.Given as goal

-- those that were passed are below the key
abbrev pub invariant-loop-first : goal.invariant-loop-first
invariant-loop-first l = record {
  rises : Rises l.rest;
  same : (id : ℕ) → l.key ≤ id → is_among l.rest id ≡ is_among l.fn.wanted id;
}

abbrev pub decreases-loop-first : goal.decreases-loop-first
decreases-loop-first l = length l.rest
