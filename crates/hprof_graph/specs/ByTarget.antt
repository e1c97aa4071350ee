-- Edges by what they refer to.
use Rattle.std.specs.Prelude.{List}
use Rattle.std.specs.List.Sorted.{IsStrictlySortedBy}
use Rattle.std.specs.declared.cmp.Ordering.{Ordering}
use Rattle.hprof_edges.specs.declared.edge.Edge.{Edge}
use Rattle.hprof_graph.specs.declared.by_target.TargetFirst.{TargetFirst}
use Rattle.hprof_graph.specs.contracts.by_target.TargetFirstOrd.TheImpl as target_first_ord

-- the edge, ordered by what it refers to, and then as edges are
abbrev pub target_first : Edge → TargetFirst
target_first edge = record { to = edge.to; edge = edge }

abbrev pub target_cmp : Edge → Edge → Ordering
target_cmp one other = (target_first_ord.ghosts).cmp (target_first one) (target_first other)

-- the edges ascend so
abbrev pub IsByTarget : List Edge → Type 0
IsByTarget edges = IsStrictlySortedBy target_cmp edges
