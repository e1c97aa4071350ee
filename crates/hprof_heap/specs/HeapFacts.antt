-- What a heap holds, as words that goals do not open.
use Rattle.std.specs.Prelude.{List}
use Rattle.hprof_values.specs.declared.ids.IdSize.{IdSize}
use Rattle.hprof_items.specs.FactValue.{FactValue}
use Rattle.hprof_heap.specs.declared.heap.Heap.{Heap}
use Rattle.hprof_heap.specs.Heap.{heap_of}

-- its facts, in canonical order
unfoldable pub facts_of : Heap → List FactValue
facts_of heap = (heap_of heap).facts

-- the size of its identifiers
unfoldable pub size_of : Heap → IdSize
size_of heap = (heap_of heap).ids
