-- The classes that have weak fields; no public contract speaks of it.
use Rattle.std.specs.Prelude.{◌≡◌, ℕ, true, List, Option, Some, None}
use Rattle.std.specs.BTreeMap.{get}
use Rattle.std.specs.Ordering.{nat_cmp}
use Rattle.hprof_items.specs.FactValue.{FactValue}
use Rattle.hprof_layouts.specs.declared.slot.Slot.{Slot}
use Rattle.hprof_layouts.specs.Layout.{IsKnown}
use Rattle.hprof_layouts.specs.WaitingLists.{put}
use Rattle.hprof_edges.specs.declared.field_place.FieldPlace.{FieldPlace}
use Rattle.hprof_weak.specs.declared.links.Link.{Link}
use Rattle.hprof_weak.specs.declared.strengths.Strength.{Strength}
use Rattle.hprof_weak.specs.declared.weak_classes.WeakClasses.{WeakClasses}
use Rattle.hprof_weak.specs.Links.{Leads, nexts_in}
use Rattle.hprof_weak.specs.Weak.{IsCleared, IsWeakField}

-- the first weak field of a class
abbrev pub first_of : WeakClasses → ℕ → Option Link
first_of classes class = get nat_cmp classes.firsts class

-- the referents of the class are cleared, and that is the first of them
pub record IsFirstWeak (facts : List FactValue) (nexts : List (Option Link)) (class : ℕ) (first : Link) : Type 0 where
  pub cleared : IsCleared facts class
  pub slots : List Slot
  pub known : IsKnown facts class slots
  pub leads : Leads facts nexts (Some first) slots

-- the referents of the class are cleared, and that is the first of them
abbrev pub HasFirst : Strength → Link → Type 0
HasFirst strength first = (strength.is_cleared ≡ true) × (strength.first ≡ Some first)

-- the class was put, if it has a first one
pub record PutsFirst (strength : Strength) (old new : ℕ → Option Link) : Type 0 where
  pub some : (first : Link) → HasFirst strength first → new ≡ put old strength.class (Some first)
  pub none : ((first : Link) → HasFirst strength first → ⊥) → new ≡ old

-- each class that has weak fields is among them, with its first one
pub record AreWeakClasses (facts : List FactValue) (classes : WeakClasses) : Type 0 where
  pub right : (class : ℕ) (first : Link) → first_of classes class ≡ Some first → IsFirstWeak facts (nexts_in classes.links) class first
  pub all : (field : FieldPlace) → IsWeakField facts field → first_of classes field.class ≡ None → ⊥
