-- The objects that the report `show` is read from.
use Rattle.std.specs.Prelude.{◌≡◌, ℕ, List, Option, Contains}
use Rattle.hprof_values.specs.declared.ids.IdSize.{IdSize}
use Rattle.hprof_items.specs.FactValue.{FactValue}
use Rattle.hprof_heap.specs.declared.heap.Heap.{Heap}
use Rattle.hprof_heap.specs.Classes.{ClassValue}
use Rattle.hprof_heap.specs.Found.{IsClassFound, IsObjectFound}
use Rattle.hprof_heap.specs.HeapFacts.{facts_of, size_of}
use Rattle.hprof_layouts.specs.Fields.{AreFields, FieldsValue}
use Rattle.hprof_small.specs.Small.{IsSmall}
use Rattle.hprof_words.specs.Words.{HasWords}
use Rattle.hprof_show.specs.Shown.{shown_ids}

-- the list has each identifier of which the report says what it is
abbrev pub HasShownIds : IdSize → List FactValue → ℕ → List ℕ → Type 0
HasShownIds ids facts id wanted = (fields : FieldsValue) (class : Option ClassValue) (object : Option FactValue)
    → AreFields ids facts id fields → IsClassFound facts id class → IsObjectFound facts id object
    → (shown : ℕ) → Contains (shown_ids id fields class object) shown → Contains wanted shown

-- and all that the words for it are read from
abbrev pub HasShown : IdSize → List FactValue → ℕ → List ℕ → Type 0
HasShown ids facts id wanted = (fields : FieldsValue) (class : Option ClassValue) (object : Option FactValue)
    → AreFields ids facts id fields → IsClassFound facts id class → IsObjectFound facts id object
    → (shown : ℕ) → Contains (shown_ids id fields class object) shown → HasWords ids facts wanted shown

-- the heap of all objects that the report is read from, and of all other facts
pub record IsShownHeap (ids : IdSize) (id : ℕ) (all : List FactValue) (small : Heap) : Type 0 where
  pub size : size_of small ≡ ids
  pub wanted : List ℕ
  pub facts : IsSmall ids wanted all (facts_of small)
  pub has : HasShown ids all id wanted
