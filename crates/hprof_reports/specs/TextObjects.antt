-- The array from which the text of a string is read.
use Rattle.std.specs.Prelude.{◌≡◌, ◌⊎◌, ℕ, List, Option, IsTrue, codes}
use Rattle.hprof_values.specs.declared.ids.IdSize.{IdSize}
use Rattle.hprof_items.specs.FactValue.{FactValue}
use Rattle.hprof_heap.specs.declared.heap.Heap.{Heap}
use Rattle.hprof_heap.specs.HeapFacts.{facts_of, size_of}
use Rattle.hprof_histogram.specs.Chosen.{is_among}
use Rattle.hprof_layouts.specs.declared.field_value.FieldValue.{FieldValue}
use Rattle.hprof_layouts.specs.Fields.{FieldsValue, Values, AreFields}
use Rattle.hprof_naming.specs.Texts.{IsFirstNamed, target_of_field}
use Rattle.hprof_small.specs.Small.{IsSmall, IsSmallHeap}

-- an object with these fields has a first field `value` that refers to the array, or to nothing if that is 0
abbrev pub IsValueArray : List FactValue → FieldsValue → ℕ → Type 0
IsValueArray facts (Values values) array =
    (value : Option FieldValue) × IsFirstNamed facts (codes "value") values value × (array ≡ target_of_field value)
IsValueArray facts other array = array ≡ 0

-- the list has the array to which the first field `value` of the object refers, if it has one that refers to an array
abbrev pub HasValueArray : IdSize → List FactValue → ℕ → List ℕ → Type 0
HasValueArray ids facts id wanted = (fields : FieldsValue) (array : ℕ) → AreFields ids facts id fields → IsValueArray facts fields array
    → (array ≡ 0) ⊎ IsTrue (is_among wanted array)

-- ---- heaps

-- the heap of two of the objects, and of all other facts
pub record IsHeapOfTwo (millis : ℕ) (ids : IdSize) (one other : ℕ) (all : List FactValue) (small : Heap) : Type 0 where
  pub wanted : List ℕ
  pub is_small : IsSmallHeap millis ids wanted all small
  pub has_one : IsTrue (is_among wanted one)
  pub has_other : IsTrue (is_among wanted other)

-- the heap of all objects that the text of the object needs, and of all other facts
pub record IsTextHeap (ids : IdSize) (id : ℕ) (all : List FactValue) (small : Heap) : Type 0 where
  pub size : size_of small ≡ ids
  pub wanted : List ℕ
  pub facts : IsSmall ids wanted all (facts_of small)
  pub has_object : IsTrue (is_among wanted id)
  pub has_array : HasValueArray ids all id wanted
