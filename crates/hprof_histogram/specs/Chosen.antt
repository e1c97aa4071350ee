-- Objects that are chosen by their kind, each with its bytes, the largest first.
use Rattle.std.specs.Prelude.{◌==◌, ℕ, Bool, false, List, Option, Some, None, map, ⊤}
use Rattle.std.specs.List.{filter, list_any}
use Rattle.std.specs.List.Sorted.{IsPermutation, IsSorted, IsStrictlyIncreasing}
use Rattle.std.specs.Coded.{Unit-prop}
use Rattle.std.proofs.Props.{props}
use Rattle.hprof_values.specs.declared.ids.IdSize.{IdSize}
use Rattle.hprof_items.specs.FactValue.{FactValue}
use Rattle.hprof_histogram.specs.declared.chosen.Chosen.{Chosen}
use Rattle.hprof_histogram.specs.declared.chosen.Chosen.TheVariants as choices
use Rattle.hprof_histogram.specs.declared.objects.SizedObject.{SizedObject}
use Rattle.hprof_histogram.specs.declared.row.Kind.{Kind}
use Rattle.hprof_histogram.specs.declared.row.Kind.TheVariants.{Class, Prim}
use Rattle.hprof_histogram.specs.Histogram.{object_kind, same_kind}
use Rattle.hprof_histogram.specs.Objects.{object_cmp, sized_of}

-- whether the class is one of these
abbrev pub is_among : List ℕ → ℕ → Bool
is_among classes class = list_any (λ other. other == class) classes

-- whether the kind is that of one of the classes
abbrev pub is_of_classes : List ℕ → Kind → Bool
is_of_classes classes (Class class) = is_among classes class
is_of_classes classes (Prim elem) = false

-- whether objects of a kind are chosen
abbrev pub chooses : Chosen → Kind → Bool
chooses (choices.Kind kind) other = same_kind kind other
chooses (choices.Classes classes) other = is_of_classes classes.now other

-- classes ascend
abbrev pub CanChoose : Chosen → Type 0
CanChoose (choices.Kind kind) = ⊤
CanChoose (choices.Classes classes) = IsStrictlyIncreasing classes.now

pub CanChoose-prop : (chosen : Chosen) → IsProp (CanChoose chosen)
CanChoose-prop (choices.Kind kind) = Unit-prop
CanChoose-prop (choices.Classes classes) = hlevel props

-- whether a fact of that kind, if it is an object, is chosen
abbrev pub is_chosen : Chosen → Option Kind → Bool
is_chosen chosen None = false
is_chosen chosen (Some kind) = chooses chosen kind

-- the facts that are chosen objects
abbrev pub chosen_among : Chosen → List FactValue → List FactValue
chosen_among chosen facts = filter (λ fact. is_chosen chosen (object_kind fact)) facts

-- these are the chosen ones in order, each with its bytes
pub record AreChosen (ids : IdSize) (facts : List FactValue) (chosen : Chosen) (objects : List SizedObject) : Type 0 where
  pub sorted : IsSorted object_cmp objects
  pub same : IsPermutation (map (sized_of ids) (chosen_among chosen facts)) objects
