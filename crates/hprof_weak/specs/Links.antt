-- Lists of referents that share their ends; no public contract speaks of them.
use Rattle.std.specs.Prelude.{◌≡◌, ◌↔◌, ◌⊎◌, ⊤, ℕ, ◌+◌, ◌<◌, min, Bool, true, false, List, [], ◌∷◌, ◌++◌, length, Option, Some, None}
use Rattle.std.specs.Prelude.{slice_get, IsTrue, Contains}
use Rattle.std.specs.List.{AllByRecursion}
use Rattle.hprof_items.specs.FactValue.{FactValue}
use Rattle.hprof_layouts.specs.declared.slot.Slot.{Slot}
use Rattle.hprof_layouts.specs.Plan.{most}
use Rattle.hprof_edges.specs.declared.field_place.FieldPlace.{FieldPlace}
use Rattle.hprof_weak.specs.declared.links.Link.{Link}
use Rattle.hprof_weak.specs.declared.links.Links.{Links}
use Rattle.hprof_weak.specs.Weak.{IsReferent}

-- for each field whether it is a referent
abbrev pub AreFlags : List FactValue → List Bool → List Slot → Type 0
AreFlags facts [] [] = ⊤
AreFlags facts (flag ∷ flags) (slot ∷ slots) = (IsTrue flag ↔ IsReferent facts slot) × AreFlags facts flags slots
AreFlags facts flags slots = ⊥

-- none of the fields is a referent
abbrev pub NoReferent : List FactValue → List Slot → Type 0
NoReferent facts slots = AllByRecursion (λ slot. ¬ IsReferent facts slot) slots

-- the links from one referent to the next
abbrev pub nexts_in : Links → List (Option Link)
nexts_in links = links.nexts.items

-- the link with one field more before it
abbrev pub link_behind : Link → Link
link_behind link = record { before = min (link.before + 1) most; number = link.number }

-- there are more links
pub record Extends (nexts longer : List (Option Link)) : Type 0 where
  pub more : List (Option Link)
  pub longer_is : longer ≡ nexts ++ more

-- from there on the links lead from one referent to the next, through all of the fields
pub data Leads (facts : List FactValue) (nexts : List (Option Link)) : Option Link → List Slot → Type 0 where
  NoMore : (slots : List Slot) → NoReferent facts slots → Leads facts nexts None slots
  OneMore : (link : Link) (slots front : List Slot) (slot : Slot) (rest : List Slot) (next : Option Link) → slots ≡ front ++ slot ∷ rest
      → link.before ≡ min (length front) most → NoReferent facts front → IsReferent facts slot → slice_get nexts link.number ≡ Some next
      → Leads facts nexts next rest → Leads facts nexts (Some link) slots

-- the field at that place of a class that has these slots is a referent
pub record IsReferentOf (facts : List FactValue) (class : ℕ) (slots : List Slot) (field : FieldPlace) : Type 0 where
  pub of_class : field.class ≡ class
  pub slot : Slot
  pub there : slice_get slots field.place ≡ Some slot
  pub referent : IsReferent facts slot

-- to the old fields referents of the class came: all of them, or else there are more fields than there is room for
pub record PushesReferents (facts : List FactValue) (class : ℕ) (slots : List Slot) (room : ℕ) (all : Bool) (old new : List FieldPlace)
    : Type 0 where
  pub keeps : (field : FieldPlace) → Contains old field → Contains new field
  pub only : (field : FieldPlace) → Contains new field → Contains old field ⊎ IsReferentOf facts class slots field
  pub every : all ≡ true → (field : FieldPlace) → IsReferentOf facts class slots field → Contains new field
  pub short : all ≡ false → room < length slots
