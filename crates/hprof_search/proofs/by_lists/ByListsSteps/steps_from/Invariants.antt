use Rattle.std.proofs.Common.{◌≡◌, ◌<◌, ◌≤◌, ℕ, Contains, length, slice_index}
use Rattle.std.specs.Prelude.{◌↔◌, All}
use Rattle.hprof_numbers.specs.Lists.{start_in}
use Rattle.hprof_numbers.specs.Numbers.{items_in}
use Rattle.hprof_search.proofs.by_lists.ByListsSteps.steps_from.Given as goal

abbrev pub invariant-loop-place : goal.invariant-loop-place
invariant-loop-place l = record {
  from : start_in l.self.lists.now l.from ≤ l.place;
  below : All (λ number. number < length l._numbered.nodes.items) l.numbers.items;
  has : (to : ℕ) → Contains l.numbers.items to ↔ ((place : ℕ) × (start_in l.self.lists.now l.from ≤ place) × (place < l.place)
      × (slice_index (items_in l.self.lists.now.items) place ≡ to));
}
