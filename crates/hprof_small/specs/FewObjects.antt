-- A heap in the making, and what it does with an object.
use Rattle.std.specs.Prelude.{◌≡◌, [], ◌∷◌}
use Rattle.hprof_values.specs.declared.ids.IdSize.{IdSize}
use Rattle.hprof_items.specs.FactValue.{FactValue}
use Rattle.hprof_heap.specs.Heap.{heap_of}
use Rattle.hprof_heap.specs.Join.{TakesFacts}
use Rattle.hprof_small.specs.declared.few_objects.FewObjects.{FewObjects}

-- an object with identifiers of its size is taken
abbrev pub TakesObject : FewObjects → IdSize → FactValue → FewObjects → Type 0
TakesObject old ids object new = ids ≡ (heap_of old.heap).ids → TakesFacts (heap_of old.heap) (object ∷ []) (heap_of new.heap)
