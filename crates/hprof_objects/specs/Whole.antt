-- The heap of parts, put together of the heap of all facts but objects, and of the objects.
use Rattle.std.specs.Prelude.{◌≡◌, Bool, not, List, [], ◌∷◌, ◌++◌, Some, is_some, ⊤}
use Rattle.std.specs.List.{AllByRecursion, filter}
use Rattle.hprof_values.specs.declared.ids.IdSize.{IdSize}
use Rattle.hprof_items.specs.FactValue.{FactValue}
use Rattle.hprof_items.specs.Spelling.{Fits}
use Rattle.hprof_rows.specs.Facts.{AllFit}
use Rattle.hprof_rows.specs.HeapValue.{HeapValue}
use Rattle.hprof_heap.specs.Gathering.{Given}
use Rattle.hprof_merge.specs.Rows.{ByteRow}
use Rattle.hprof_facts.specs.ObjectKeys.{object_key}
use Rattle.hprof_objects.specs.ObjectRows.{object_row, object_rows}

-- whether the fact is an object
abbrev pub is_object : FactValue → Bool
is_object fact = is_some (object_key fact)

-- the facts that are no objects
abbrev pub no_objects : List FactValue → List FactValue
no_objects facts = filter (λ fact. not (is_object fact)) facts

-- what a part was given, but its objects
abbrev pub without_objects : Given → Given
without_objects part = record { header = part.header; facts = no_objects part.facts }

-- the rows of the objects that a part was given
abbrev pub rows_given : Given → List ByteRow
rows_given part = object_rows part.header.ids part.facts

-- each of the facts is an object that has a spelling, and the row in its place is its row
abbrev pub AreObjects : IdSize → List ByteRow → List FactValue → Type 0
AreObjects ids [] [] = ⊤
AreObjects ids (row ∷ rows) (fact ∷ facts) = Fits ids fact × (object_row ids fact ≡ Some row) × AreObjects ids rows facts
AreObjects ids _ _ = ⊥

-- the heap with objects behind its facts
abbrev pub with_objects : HeapValue → List FactValue → HeapValue
with_objects heap objects = record { ids = heap.ids; millis = heap.millis; facts = heap.facts ++ objects }

-- each fact of a part has a spelling under the size of the part
abbrev pub FitGiven : List Given → Type 0
FitGiven parts = AllByRecursion (λ part. AllFit part.header.ids part.facts) parts
