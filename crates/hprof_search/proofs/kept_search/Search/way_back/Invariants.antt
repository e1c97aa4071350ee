use Rattle.std.proofs.Common.{◌≡◌, ◌++◌, ◌-◌, ◌<◌, ℕ, List, length, map, slice_index}
use Rattle.hprof_search.specs.WayBack.{way_back}
use Rattle.hprof_numbers.specs.Numbers.{items_in}
use Rattle.hprof_search.proofs.Ways.{way_left}
use Rattle.hprof_search.proofs.kept_search.Search.way_back.Given as goal

pub record WentBack (nodes before : List ℕ) (levels found left number : ℕ) (way : List ℕ) : Type 0 where
  pub below : number < length before
  pub whole : way ++ map (slice_index nodes) (way_left before left number) ≡ map (slice_index nodes) (way_back before levels found)

abbrev pub invariant-loop : goal.invariant-loop
invariant-loop l =
    WentBack l.self.nodes.items (items_in l.self.before) l.self.levels l.found (l.end - l.counter) l.number l.nodes.items
