use Rattle.std.proofs.Common.{◌<◌, ℕ, Contains, length, slice_index, take}
use Rattle.std.specs.Prelude.{◌↔◌, All}
use Rattle.hprof_search.proofs.by_identifiers.look_up.Given as goal

abbrev pub invariant-loop-target : goal.invariant-loop-target
invariant-loop-target l = record {
  below : All (λ number. number < length l.numbered.nodes.items) l.numbers.items;
  has : (to : ℕ) → to < length l.numbered.nodes.items
      → Contains l.numbers.items to ↔ Contains (take l.target-index l.targets) (slice_index l.numbered.nodes.items to);
}
