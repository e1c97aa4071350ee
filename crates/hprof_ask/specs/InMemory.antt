-- The heap that is in memory, as a value.
use Rattle.std.proofs.Common.{◌≡◌, List, refl, sym, subst}
use Rattle.hprof_values.specs.declared.ids.IdSize.{IdSize}
use Rattle.hprof_items.specs.FactValue.{FactValue}
use Rattle.hprof_rows.specs.HeapValue.{HeapValue}
use Rattle.hprof_heap.specs.declared.heap.Heap.{Heap}
use Rattle.hprof_heap.specs.Heap.{heap_of}
use Rattle.hprof_heap.specs.HeapFacts.{facts_of, size_of}

-- the value is that of the heap: there is one
unfoldable pub IsValueOf : Heap → HeapValue → Type 0
IsValueOf heap value = value ≡ heap_of heap

pub value_of : (heap : Heap) → IsValueOf heap (heap_of heap)
unfolding IsValueOf
value_of heap = refl

-- what holds of the heap's size of identifiers and of its facts holds of those of the value
pub of_value : (P : IdSize → List FactValue → Type 0) (heap : Heap) (value : HeapValue) → IsValueOf heap value
    → P (size_of heap) (facts_of heap) → P value.ids value.facts
unfolding IsValueOf facts_of size_of
of_value P heap value same holds = subst (λ (h : HeapValue). P h.ids h.facts) (sym same) holds
