-- Classes that are passed over on the way up a chain of superclasses.
use Rattle.std.specs.Prelude.{◌≡◌, ℕ, ◌≤◌, List, length, Some}
use Rattle.std.specs.Ordering.{nat_cmp}
use Rattle.std.specs.BTreeMap.{get}
use Rattle.hprof_items.specs.FactValue.{FactValue}
use Rattle.hprof_heap.specs.Classes.{ClassValue}
use Rattle.hprof_layouts.specs.declared.slot.Slot.{Slot}
use Rattle.hprof_layouts.specs.Chain.{IsChain}
use Rattle.hprof_layouts.specs.Layout.{slots_of}
use Rattle.hprof_reports.specs.declared.field_names.FieldNames.{FieldNames}

-- the layout of the class is known, along a chain of at most so many classes
pub record IsKnownWithin (facts : List FactValue) (class : ℕ) (slots : List Slot) (count : ℕ) : Type 0 where
  pub dumps : List ClassValue
  pub chain : IsChain facts class dumps 0
  pub slots_are : slots ≡ slots_of dumps
  pub few : length dumps ≤ count

-- the layout of the one class is that of the other, which is no farther from the end of the chain
abbrev pub HasSameLayout : List FactValue → ℕ → ℕ → Type 0
HasSameLayout facts class next = (slots : List Slot) (count : ℕ) → IsKnownWithin facts class slots count
    → IsKnownWithin facts next slots count

-- so it is of each class that was passed over
abbrev pub AreSkips : List FactValue → FieldNames → Type 0
AreSkips facts names = (class next : ℕ) → get nat_cmp names.above class ≡ Some next → HasSameLayout facts class next
