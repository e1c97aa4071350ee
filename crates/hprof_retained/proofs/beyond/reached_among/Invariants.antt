use Rattle.std.proofs.Common.{ℕ, Contains}
use Rattle.std.specs.List.Sorted.{IsStrictlyIncreasing}
use Rattle.hprof_search.specs.Search.{IsSearch}
use Rattle.hprof_retained.specs.Border.{Crossing, IsCrossedTo, starts_of, steps_of}
use Rattle.hprof_retained.proofs.Ascending.{ArePassed, Taken}
use Rattle.hprof_retained.proofs.beyond.reached_among.Given as goal

-- the nodes so far that were reached
abbrev pub invariant-loop-node : goal.invariant-loop-node
invariant-loop-node l = record {
  ascend : IsStrictlyIncreasing l.reached.items;
  taken : (node : ℕ) → Contains l.reached.items node → Taken l.nodes l.node-index node;
  exact : (crossing : Crossing) → IsSearch (starts_of crossing) (steps_of crossing) l.search
      → ArePassed (IsCrossedTo crossing) l.nodes l.node-index l.reached.items;
}
