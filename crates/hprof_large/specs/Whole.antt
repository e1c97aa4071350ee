-- A heap whose objects are gone through.
use Rattle.std.specs.Prelude.{◌≡◌, List}
use Rattle.hprof_values.specs.declared.ids.IdSize.{IdSize}
use Rattle.hprof_items.specs.FactValue.{FactValue}
use Rattle.hprof_rows.specs.HeapValue.{HeapValue}
use Rattle.hprof_heap.specs.declared.heap.Heap.{Heap}
use Rattle.hprof_heap.specs.Heap.{heap_of}
use Rattle.hprof_heap.specs.HeapFacts.{facts_of, size_of}

-- the value is the heap with all its objects
--   heap: all its facts but objects;  MakeUp: the objects make up these facts, with those of a heap
pub record IsWholeHeap (heap : Heap) (MakeUp : IdSize → List FactValue → List FactValue → Type 0) (whole : HeapValue) : Type 0 where
  pub ids : whole.ids ≡ size_of heap
  pub millis : whole.millis ≡ (heap_of heap).millis
  pub made_up : MakeUp (size_of heap) (facts_of heap) whole.facts
