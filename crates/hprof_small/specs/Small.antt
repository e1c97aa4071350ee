-- Facts with a few of their objects.
use Rattle.std.specs.Prelude.{◌≡◌, ℕ, List}
use Rattle.hprof_values.specs.declared.ids.IdSize.{IdSize}
use Rattle.hprof_items.specs.FactValue.{FactValue}
use Rattle.hprof_heap.specs.declared.heap.Heap.{Heap}
use Rattle.hprof_heap.specs.Heap.{heap_of}
use Rattle.hprof_heap.specs.HeapFacts.{facts_of, size_of}
use Rattle.hprof_passes.specs.Passing.{IsWhole, objects_among}
use Rattle.hprof_passes.specs.Picked.{picked}

-- the objects that are wanted
abbrev pub wanted_objects : List ℕ → List FactValue → List FactValue
wanted_objects wanted facts = picked wanted (objects_among facts)

-- the facts of a heap: in each table but that of objects they are these facts, and of the objects they have those that are wanted
pub record IsSmall (ids : IdSize) (wanted : List ℕ) (all small : List FactValue) : Type 0 where
  pub whole : IsWhole ids all small
  pub objects : objects_among small ≡ wanted_objects wanted all

-- the heap has this time, this size, and of these facts all but the objects that are not wanted
pub record IsSmallHeap (millis : ℕ) (ids : IdSize) (wanted : List ℕ) (all : List FactValue) (small : Heap) : Type 0 where
  pub time : (heap_of small).millis ≡ millis
  pub size : size_of small ≡ ids
  pub facts : IsSmall ids wanted all (facts_of small)
