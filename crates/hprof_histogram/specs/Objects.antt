-- The objects of a kind, each with its bytes, the largest first. The order is this project's own.
use Rattle.std.specs.Prelude.{◌≡◌, ◌↔◌, ℕ, List, Some, Contains}
use Rattle.std.specs.List.Sorted.{IsStrictlySortedBy}
use Rattle.std.specs.Ordering.{nat_cmp, ordering_then}
use Rattle.std.specs.declared.cmp.Ordering.{Ordering}
use Rattle.hprof_values.specs.declared.ids.IdSize.{IdSize}
use Rattle.hprof_items.specs.FactValue.{FactValue, Instance, ObjArray, PrimArray}
use Rattle.hprof_rows.specs.Facts.{Has}
use Rattle.hprof_histogram.specs.declared.objects.SizedObject.{SizedObject}
use Rattle.hprof_histogram.specs.declared.row.Kind.{Kind}
use Rattle.hprof_histogram.specs.Histogram.{object_kind, size_of_object}

-- the identifier of an object
abbrev pub id_of_object : FactValue → ℕ
id_of_object (Instance id trace class bytes) = id
id_of_object (ObjArray id trace class elements) = id
id_of_object (PrimArray id trace elem bytes) = id
id_of_object fact = 0

-- an object, and how many bytes its fields or elements have
abbrev pub sized_of : IdSize → FactValue → SizedObject
sized_of ids fact = record { bytes = size_of_object ids fact; id = id_of_object fact }

-- the most bytes first, then by identifier
abbrev pub object_cmp : SizedObject → SizedObject → Ordering
object_cmp object other = ordering_then (nat_cmp other.bytes object.bytes) (nat_cmp object.id other.id)

-- it is one of the objects of the kind
pub record IsObjectOfKind (ids : IdSize) (facts : List FactValue) (kind : Kind) (object : SizedObject) : Type 0 where
  pub fact : FactValue
  pub has : Has facts fact
  pub kind_is : object_kind fact ≡ Some kind
  pub object_is : object ≡ sized_of ids fact

-- these are the objects of the kind, in order, each once
pub record AreObjects (ids : IdSize) (facts : List FactValue) (kind : Kind) (objects : List SizedObject) : Type 0 where
  pub ascend : IsStrictlySortedBy object_cmp objects
  pub exact : (object : SizedObject) → Contains objects object ↔ IsObjectOfKind ids facts kind object
