-- Weak fields that are put into a table; no public contract speaks of it.
use Rattle.std.specs.Prelude.{◌≡◌, ⊤, ℕ, ◌≤◌, List, length, Some, None, Contains}
use Rattle.hprof_values.specs.declared.ids.IdSize.{IdSize}
use Rattle.hprof_items.specs.FactValue.{FactValue, Instance}
use Rattle.hprof_rows.specs.Conflict.{IsConsistent}
use Rattle.hprof_heap.specs.Objects.{HasInstance}
use Rattle.hprof_layouts.specs.declared.slot.Slot.{Slot}
use Rattle.hprof_layouts.specs.Fields.{width_of_slots}
use Rattle.hprof_layouts.specs.Layout.{IsKnown}
use Rattle.hprof_edges.specs.declared.field_place.FieldPlace.{FieldPlace}
use Rattle.hprof_weak.specs.declared.links.Link.{Link}
use Rattle.hprof_weak.specs.declared.row_sink.RowSink.{RowSink}
use Rattle.hprof_weak.specs.declared.weak_classes.WeakClasses.{WeakClasses}
use Rattle.hprof_weak.specs.Links.{nexts_in}
use Rattle.hprof_weak.specs.Weak.{IsWeakField}
use Rattle.hprof_weak.specs.WeakClasses.{IsFirstWeak, first_of}

-- the fields so far are weak, and so are all of a class that is not left
pub record ArePut (facts : List FactValue) (classes : WeakClasses) (fields : List FieldPlace) : Type 0 where
  pub right : (class : ℕ) (first : Link) → first_of classes class ≡ Some first → IsFirstWeak facts (nexts_in classes.links) class first
  pub only : (field : FieldPlace) → Contains fields field → IsWeakField facts field
  pub all : (field : FieldPlace) → IsWeakField facts field → first_of classes field.class ≡ None → Contains fields field

-- all weak fields of the class are there, if its layout has no more fields than that
abbrev pub IsPutWithin : List FactValue → ℕ → ℕ → List FieldPlace → Type 0
IsPutWithin facts class room fields = (slots : List Slot) → IsKnown facts class slots → length slots ≤ room
    → (field : FieldPlace) → field.class ≡ class → IsWeakField facts field → Contains fields field

-- weak fields of a class were put
pub record IsPut (facts : List FactValue) (class room : ℕ) (new : WeakClasses) (old_fields new_fields : List FieldPlace) : Type 0 where
  pub put : ArePut facts new new_fields
  pub keeps : (field : FieldPlace) → Contains old_fields field → Contains new_fields field
  pub within : IsPutWithin facts class room new_fields

abbrev pub PutsWeak : List FactValue → ℕ → ℕ → WeakClasses → WeakClasses → List FieldPlace → List FieldPlace → Type 0
PutsWeak facts class room old new old_fields new_fields = IsConsistent facts → ArePut facts old old_fields
    → IsPut facts class room new old_fields new_fields

-- the fact was gone over: if it is an instance with values, all weak fields of its class are there
abbrev pub IsDoneWith : List FactValue → List FieldPlace → FactValue → Type 0
IsDoneWith facts fields (Instance object trace class bytes) = IsPutWithin facts class (length bytes) fields
IsDoneWith facts fields fact = ⊤

-- weak fields of the class of an instance were put
pub record PutsRow (facts : List FactValue) (object : FactValue) (old new : RowSink) : Type 0 where
  pub put : ArePut facts new.left new.fields.items
  pub keeps : (field : FieldPlace) → Contains old.fields.items field → Contains new.fields.items field
  pub done : IsDoneWith facts new.fields.items object

abbrev pub TakesRow : RowSink → FactValue → RowSink → Type 0
TakesRow old object new = (facts : List FactValue) → IsConsistent facts → ArePut facts old.left old.fields.items
    → PutsRow facts object old new

-- the fields are weak, and all that are fields of instances with values are there
pub record AreWeakRows (ids : IdSize) (facts : List FactValue) (fields : List FieldPlace) : Type 0 where
  pub only : (field : FieldPlace) → Contains fields field → IsWeakField facts field
  pub all : (object class : ℕ) (bytes : List ℕ) (slots : List Slot) → HasInstance facts object class bytes → IsKnown facts class slots
      → width_of_slots ids slots ≡ length bytes → (field : FieldPlace) → field.class ≡ class → IsWeakField facts field
      → Contains fields field
