-- Edges to an identifier that are put one node after the other; no public contract speaks of it.
use Rattle.std.specs.Prelude.{◌≡◌, ◌<◌, ◌≤◌, ℕ, List, Contains, length, slice_index}
use Rattle.hprof_values.specs.declared.ids.IdSize.{IdSize}
use Rattle.hprof_items.specs.FactValue.{FactValue}
use Rattle.hprof_edges.specs.declared.edge.Edge.{Edge}
use Rattle.hprof_edges.specs.Edges.{IsEdge}
use Rattle.hprof_numbers.specs.declared.predecessors.Predecessors.{Predecessors}
use Rattle.hprof_numbers.specs.Predecessors.{nodes_of, number_at}

-- the node stands at that place
abbrev pub StandsAt : Predecessors → ℕ → ℕ → Type 0
StandsAt sources place node = (number_at sources place < length (nodes_of sources))
    × (slice_index (nodes_of sources) (number_at sources place) ≡ node)

module _ (ids : IdSize) (facts : List FactValue) (holds : List Edge → Type 0) where
  -- edges were put, and no other than edges: all from 0, from the last node, and from those at the places so far
  pub record PutSoFar (sources : Predecessors) (start place last : ℕ) : Type 0 where
    pub edges : List Edge
    pub held : holds edges
    pub only : (edge : Edge) → Contains edges edge → IsEdge ids facts edge
    pub zero : (edge : Edge) → IsEdge ids facts edge → edge.from ≡ 0 → Contains edges edge
    pub latest : (edge : Edge) → IsEdge ids facts edge → edge.from ≡ last → Contains edges edge
    pub places : (before : ℕ) → start ≤ before → before < place → (edge : Edge) → IsEdge ids facts edge
        → StandsAt sources before edge.from → Contains edges edge

  -- edges were put, all to that identifier among them
  pub record PutsReferrers (id : ℕ) : Type 0 where
    pub edges : List Edge
    pub held : holds edges
    pub only : (edge : Edge) → Contains edges edge → IsEdge ids facts edge
    pub all : (edge : Edge) → IsEdge ids facts edge → edge.to ≡ id → Contains edges edge
