-- A heap, and what is kept of it.
use Rattle.std.specs.Prelude.{◌↔◌}
use Rattle.hprof_heap.specs.declared.heap.Heap.{Heap}
use Rattle.hprof_heap.specs.HeapFacts.{facts_of, size_of}
use Rattle.hprof_edges.specs.declared.edge.Edge.{Edge}
use Rattle.hprof_edges.specs.Edges.{IsEdge}
use Rattle.hprof_edges.specs.LeftOut.{IsLeftOut, fields_in}
use Rattle.hprof_layouts.specs.Known.{Knows}
use Rattle.hprof_naming.specs.ClassNames.{AreClassNames}
use Rattle.hprof_threads.specs.ThreadRoots.{AreThreadRoots}
use Rattle.hprof_weak.specs.Weak.{IsWeak}
use Rattle.hprof_holders.specs.declared.view.HeapTables.{HeapTables}
use Rattle.hprof_holders.specs.declared.view.HeapView.{HeapView}

-- what is kept is of this heap
pub record IsView (view : HeapView) : Type 0 where
  pub layouts : Knows (size_of view.heap.now) (facts_of view.heap.now) view.layouts.now
  pub classes : AreClassNames (facts_of view.heap.now) view.classes.now
  pub threads : AreThreadRoots (facts_of view.heap.now) view.threads.now
  pub weak : (edge : Edge) → IsEdge (size_of view.heap.now) (facts_of view.heap.now) edge
      → IsLeftOut (fields_in view.weak.now) (facts_of view.heap.now) edge ↔ IsWeak (facts_of view.heap.now) edge

-- the tables are of this heap
pub record AreTables (heap : Heap) (tables : HeapTables) : Type 0 where
  pub layouts : Knows (size_of heap) (facts_of heap) tables.layouts
  pub classes : AreClassNames (facts_of heap) tables.classes
  pub threads : AreThreadRoots (facts_of heap) tables.threads
  pub weak : (edge : Edge) → IsEdge (size_of heap) (facts_of heap) edge
      → IsLeftOut (fields_in tables.weak) (facts_of heap) edge ↔ IsWeak (facts_of heap) edge
