-- The classes and objects that the report `biggest` is on. The choices are this project's own.
use Rattle.std.specs.Prelude.{◌≡◌, ◌⊎◌, ℕ, Bool, List, Some, Contains, IsTrue, ⊤}
use Rattle.std.specs.List.Sorted.{IsStrictlyIncreasing}
use Rattle.std.proofs.Props.{props}
use Rattle.hprof_items.specs.FactValue.{FactValue}
use Rattle.hprof_rows.specs.Facts.{Has}
use Rattle.hprof_heap.specs.Classes.{ClassValue, HasDump}
use Rattle.hprof_heap.specs.Objects.{HasNoObject, IsObject}
use Rattle.hprof_histogram.specs.declared.row.Kind.{Kind}
use Rattle.hprof_histogram.specs.declared.row.Kind.TheVariants as kinds
use Rattle.hprof_histogram.specs.Histogram.{object_kind}
use Rattle.hprof_keeps.specs.declared.choice.Choice.{Choice}
use Rattle.hprof_keeps.specs.declared.choice.Choice.TheVariants.{Of, OfClasses}

-- the node has an object dump, which is of that kind
pub record HasObjectOfKind (facts : List FactValue) (kind : Kind) (node : ℕ) : Type 0 where
  pub fact : FactValue
  pub has : Has facts fact
  pub is_object : IsObject node fact
  pub kind_is : object_kind fact ≡ Some kind

-- it has one of one of these classes
abbrev pub HasObjectOfClasses : List FactValue → List ℕ → ℕ → Type 0
HasObjectOfClasses facts classes node = (class : ℕ) × Contains classes class × HasObjectOfKind facts (kinds.Class class) node

-- it has a class dump, and no object dump
abbrev pub IsClassAlone : List FactValue → ℕ → Type 0
IsClassAlone facts node = (dump : ClassValue) × HasDump facts dump × (dump.id ≡ node) × HasNoObject facts node

-- it has an object dump of one of these classes; or, if class dumps are asked for too, a class dump alone
abbrev pub IsOfClasses : List FactValue → List ℕ → Bool → ℕ → Type 0
IsOfClasses facts classes with_class_dumps node =
    HasObjectOfClasses facts classes node ⊎ (IsTrue with_class_dumps × IsClassAlone facts node)

-- it is one of those that the report is on
abbrev pub IsChosen : List FactValue → Choice → ℕ → Type 0
IsChosen facts (Of kind) node = HasObjectOfKind facts kind node
IsChosen facts (OfClasses classes with_class_dumps) node = IsOfClasses facts classes.now with_class_dumps node

-- the classes of the choice ascend, so that they are searched by halves
abbrev pub ClassesAscend : Choice → Type 0
ClassesAscend (Of kind) = ⊤
ClassesAscend (OfClasses classes with_class_dumps) = IsStrictlyIncreasing classes.now

-- that has at most one proof
pub ascend-prop : (choice : Choice) → IsProp (ClassesAscend choice)
ascend-prop (Of kind) = hlevel props
ascend-prop (OfClasses classes with_class_dumps) = hlevel props
