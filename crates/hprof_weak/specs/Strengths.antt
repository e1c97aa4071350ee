-- What is known of classes whose layouts are known; no public contract speaks of it.
use Rattle.std.specs.Prelude.{◌≡◌, ◌≢◌, ◌↔◌, ◌⊎◌, ℕ, List, [], ◌∷◌, ◌++◌, map, drop, Option, None, false, IsTrue, Contains}
use Rattle.hprof_items.specs.FactValue.{FactValue}
use Rattle.hprof_heap.specs.Classes.{ClassValue, HasDump}
use Rattle.hprof_layouts.specs.declared.slot.Slot.{Slot}
use Rattle.hprof_layouts.specs.Layout.{IsKnown}
use Rattle.hprof_weak.specs.declared.links.Link.{Link}
use Rattle.hprof_weak.specs.declared.strengths.Strength.{Strength}
use Rattle.hprof_weak.specs.declared.strengths.Strengths.{Strengths}
use Rattle.hprof_weak.specs.Links.{Extends, Leads, nexts_in}
use Rattle.hprof_weak.specs.Weak.{IsCleared}

-- the class has a dump with that superclass
pub record IsSubclass (facts : List FactValue) (superclass class : ℕ) : Type 0 where
  pub dump : ClassValue
  pub has : HasDump facts dump
  pub id : dump.id ≡ class
  pub parent : dump.parent ≡ superclass
  pub not_zero : class ≢ 0

-- so it is with a class
pub record IsStrength (facts : List FactValue) (nexts : List (Option Link)) (strength : Strength) : Type 0 where
  pub slots : List Slot
  pub known : IsKnown facts strength.class slots
  pub leads : Leads facts nexts strength.first slots
  pub cleared : IsTrue strength.is_cleared ↔ IsCleared facts strength.class

-- class 0, whose layout has no fields
abbrev pub class_zero : Strength
class_zero = record { class = 0; is_cleared = false; first = None }

-- the classes, in order
abbrev pub strengths_in : Strengths → List Strength
strengths_in strengths = strengths.order.items

abbrev pub classes_in : Strengths → List ℕ
classes_in strengths = map (λ strength. strength.class) (strengths_in strengths)

-- a class was added
pub record AddsClass (facts : List FactValue) (old new : Strengths) (class : ℕ) : Type 0 where
  pub strength : Strength
  pub class_is : strength.class ≡ class
  pub strengths_are : strengths_in new ≡ strengths_in old ++ strength ∷ []
  pub extends : Extends (nexts_in old.links) (nexts_in new.links)
  pub right : IsStrength facts (nexts_in new.links) strength

-- the classes so far, where the subclasses are still to come of those from that place on
pub record IsStanding (facts : List FactValue) (strengths : Strengths) (waits : ℕ → List ℕ) (place : ℕ) : Type 0 where
  pub right : (strength : Strength) → Contains (strengths_in strengths) strength → IsStrength facts (nexts_in strengths.links) strength
  pub zero : Contains (classes_in strengths) 0
  -- what waits is a subclass
  pub subclasses : (superclass class : ℕ) → Contains (waits superclass) class → IsSubclass facts superclass class
  -- each class that has a dump is among them or waits
  pub all : (dump : ClassValue) → HasDump facts dump → dump.id ≢ 0
      → Contains (classes_in strengths) dump.id ⊎ Contains (waits dump.parent) dump.id
  -- none waits for a class among them, but for those
  pub closed : (superclass class : ℕ) → Contains (waits superclass) class
      → Contains (drop place (classes_in strengths)) superclass ⊎ (¬ Contains (classes_in strengths) superclass)

-- each class whose layout is known is among them, and no other
pub record AreStrengths (facts : List FactValue) (strengths : Strengths) : Type 0 where
  pub right : (strength : Strength) → Contains (strengths_in strengths) strength → IsStrength facts (nexts_in strengths.links) strength
  pub all : (class : ℕ) (slots : List Slot) → IsKnown facts class slots → Contains (classes_in strengths) class
