-- The objects of several classes, each with its bytes, the largest first. The order is this project's own.
use Rattle.std.specs.Prelude.{◌≡◌, ◌↔◌, ℕ, Bool, false, List, Option, Some, None, Contains}
use Rattle.std.specs.List.{filter}
use Rattle.std.specs.List.Sorted.{IsStrictlySortedBy}
use Rattle.hprof_values.specs.declared.ids.IdSize.{IdSize}
use Rattle.hprof_items.specs.FactValue.{FactValue}
use Rattle.hprof_rows.specs.Facts.{Has}
use Rattle.hprof_histogram.specs.declared.objects.SizedObject.{SizedObject}
use Rattle.hprof_histogram.specs.declared.row.Kind.{Kind}
use Rattle.hprof_histogram.specs.declared.row.Kind.TheVariants.{Class}
use Rattle.hprof_histogram.specs.Chosen.{is_of_classes}
use Rattle.hprof_histogram.specs.Histogram.{object_kind}
use Rattle.hprof_histogram.specs.Objects.{object_cmp, sized_of}

-- an instance or an array of objects of one of the classes
pub record IsObjectOf (ids : IdSize) (facts : List FactValue) (classes : List ℕ) (object : SizedObject) : Type 0 where
  pub fact : FactValue
  pub has : Has facts fact
  pub class : ℕ
  pub kind_is : object_kind fact ≡ Some (Class class)
  pub among : Contains classes class
  pub object_is : object ≡ sized_of ids fact

-- these are the objects of the classes, in order, each once
pub record AreObjectsOf (ids : IdSize) (facts : List FactValue) (classes : List ℕ) (objects : List SizedObject) : Type 0 where
  pub ascend : IsStrictlySortedBy object_cmp objects
  pub exact : (object : SizedObject) → Contains objects object ↔ IsObjectOf ids facts classes object

-- ---- one by one

-- whether the kind is that of one of the classes
abbrev pub is_kind_of : List ℕ → Option Kind → Bool
is_kind_of classes None = false
is_kind_of classes (Some kind) = is_of_classes classes kind

-- the facts that are such objects
abbrev pub of_classes : List ℕ → List FactValue → List FactValue
of_classes classes facts = filter (λ fact. is_kind_of classes (object_kind fact)) facts
