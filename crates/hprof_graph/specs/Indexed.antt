-- The edges of a heap, by what they refer to.
use Rattle.std.specs.Prelude.{◌≡◌, ◌↔◌, ℕ, Bool, true, List, Contains}
use Rattle.hprof_values.specs.declared.ids.IdSize.{IdSize}
use Rattle.hprof_items.specs.FactValue.{FactValue}
use Rattle.hprof_rows.specs.HeapValue.{HeapValue}
use Rattle.hprof_heap.specs.declared.heap.Heap.{Heap}
use Rattle.hprof_heap.specs.Heap.{heap_of}
use Rattle.hprof_heap.specs.HeapFacts.{facts_of, size_of}
use Rattle.hprof_edges.specs.declared.edge.Edge.{Edge}
use Rattle.hprof_edges.specs.Edges.{IsEdge}
use Rattle.hprof_graph.specs.declared.indexed.Index.{Index}
use Rattle.hprof_graph.specs.ByTarget.{IsByTarget}

-- the index has the edges to that identifier, and no others to it
pub record IsIndexTo (ids : IdSize) (facts : List FactValue) (id : ℕ) (index : Index) : Type 0 where
  pub sorted : IsByTarget index.edges.items
  pub exact : (edge : Edge) → edge.to ≡ id → Contains index.edges.items edge ↔ IsEdge ids facts edge

-- the index has those of the edges that it keeps, and no others
pub record IsIndexOf (ids : IdSize) (facts : List FactValue) (keeps : Edge → Bool) (index : Index) : Type 0 where
  pub sorted : IsByTarget index.edges.items
  pub exact : (edge : Edge) → Contains index.edges.items edge ↔ (IsEdge ids facts edge × (keeps edge ≡ true))

-- the heap of the pair, as a value
abbrev pub indexed_heap : (Heap × Index) → HeapValue
indexed_heap found = heap_of found.0

-- the index beside the heap is of its facts
abbrev pub ListsTo : (Heap × Index) → ℕ → Type 0
ListsTo found id = IsIndexTo (size_of found.0) (facts_of found.0) id found.1
