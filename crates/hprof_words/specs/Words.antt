-- The objects that the words for other objects are read from.
use Rattle.std.specs.Prelude.{◌≡◌, ◌⊎◌, ℕ, List, IsTrue}
use Rattle.hprof_values.specs.declared.ids.IdSize.{IdSize}
use Rattle.hprof_items.specs.FactValue.{FactValue}
use Rattle.hprof_heap.specs.declared.heap.Heap.{Heap}
use Rattle.hprof_histogram.specs.Chosen.{is_among}
use Rattle.hprof_layouts.specs.Fields.{AreFields, FieldsValue}
use Rattle.hprof_small.specs.Small.{IsSmallHeap}
use Rattle.hprof_threads.specs.ThreadNames.{IsNameObject}
use Rattle.hprof_reports.specs.TextObjects.{HasValueArray}

-- the list has the object that holds the name of the thread, if the object is that of a thread with a name
abbrev pub HasNameObject : IdSize → List FactValue → ℕ → List ℕ → Type 0
HasNameObject ids facts id wanted = (fields : FieldsValue) (name : ℕ) → AreFields ids facts id fields → IsNameObject facts fields name
    → (name ≡ 0) ⊎ IsTrue (is_among wanted name)

-- the list has the object, the array of its text, and the object that holds its name
pub record HasNext (ids : IdSize) (facts : List FactValue) (wanted : List ℕ) (id : ℕ) : Type 0 where
  pub object : IsTrue (is_among wanted id)
  pub array : HasValueArray ids facts id wanted
  pub name : HasNameObject ids facts id wanted

-- it has these of each of some objects
abbrev pub HasNextOf : IdSize → List FactValue → (some wanted : List ℕ) → Type 0
HasNextOf ids facts some wanted = (id : ℕ) → IsTrue (is_among some id) → HasNext ids facts wanted id

-- and the array of the text of the object that holds the name
pub record HasWords (ids : IdSize) (facts : List FactValue) (wanted : List ℕ) (id : ℕ) : Type 0 where
  pub next : HasNext ids facts wanted id
  pub name_array : (fields : FieldsValue) (name : ℕ) → AreFields ids facts id fields → IsNameObject facts fields name
      → (name ≡ 0) ⊎ HasValueArray ids facts name wanted

-- it has all that of each of some objects
abbrev pub HasWordsOf : IdSize → List FactValue → (some wanted : List ℕ) → Type 0
HasWordsOf ids facts some wanted = (id : ℕ) → IsTrue (is_among some id) → HasWords ids facts wanted id

-- the heap has this time and size, all other facts, and of the objects those that the words for some of them are read from
pub record IsWordsHeap (millis : ℕ) (ids : IdSize) (some : List ℕ) (all : List FactValue) (small : Heap) : Type 0 where
  pub wanted : List ℕ
  pub is_small : IsSmallHeap millis ids wanted all small
  pub has : HasWordsOf ids all some wanted
