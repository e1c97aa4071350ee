use Rattle.std.proofs.Common.{◌≡◌, ◌+◌, ◌-◌, ◌<◌, ℕ, List, length}
use Rattle.hprof_search.specs.WayBack.{way_back}
use Rattle.hprof_numbers.specs.Numbers.{items_in}
use Rattle.hprof_search.proofs.kept_search.Search.distance.Given as goal

pub record Counted (before : List ℕ) (levels found steps number : ℕ) : Type 0 where
  pub below : number < length before
  pub counted : steps + length (way_back before (levels - steps) number) ≡ length (way_back before levels found)

abbrev pub invariant-loop-steps : goal.invariant-loop-steps
invariant-loop-steps g l = Counted (items_in l.self.before) l.self.levels l.initial.number l.steps l.number
