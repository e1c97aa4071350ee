use Rattle.std.proofs.Common.{◌≡◌, ◌+◌, ◌-◌, ◌≤◌, ◌↔◌, ℕ, [], not, count_by, length}
use Rattle.std.specs.List.Sorted.{IsNonDecreasing}
use Rattle.hprof_search.specs.Finds.{finds_of, next_in}
use Rattle.hprof_search.proofs.Levels.{IsSearched}
use Rattle.hprof_search.proofs.Ordered.{IsByDistance}
use Rattle.hprof_search.proofs.searching.search_numbered.Given as goal

abbrev pub invariant-loop-steps : goal.invariant-loop-steps
invariant-loop-steps g l = record {
  searched : IsSearched (g.S.Steps.leads l.initial.steps l.numbered.nodes.items) l.numbered.nodes.items l.starts (finds_of l.trail)
      l.level.items l.levels;
  ascend : IsNonDecreasing l.level.items;
  none : next_in l.trail ≡ [];
  order : IsByDistance (g.S.Steps.leads l.initial.steps l.numbered.nodes.items) l.numbered.nodes.items l.starts l.trail.order.items;
  few : l.levels + (count_by not l.trail.found.items + length l.level.items) ≤ length l.numbered.nodes.items;
  stays : (node to : ℕ) → g.S.Steps.leads l.steps l.numbered.nodes.items node to
      ↔ g.S.Steps.leads l.initial.steps l.numbered.nodes.items node to;
  stands : g.S.Steps.stands l.steps l.numbered.nodes.items;
}

abbrev pub decreases-loop-steps : goal.decreases-loop-steps
decreases-loop-steps g l = length l.numbered.nodes.items - l.levels
