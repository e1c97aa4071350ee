-- The names of places.
use Rattle.std.specs.Prelude.{IfNone, IfSome}
use Rattle.std.proofs.Common.{◌≡◌, ◌-◌, ◌≤◌, ℕ, zero, suc, List, [], ◌∷◌, ◌++◌, length, drop, Option, Some, None, refl, sym, ap, subst, ◌∙◌}
use Rattle.std.proofs.Common.{arith}
use Rattle.std.specs.List.{slice_get}
use Rattle.std.specs.Option.{option_map}
use Rattle.hprof_values.specs.declared.ids.IdSize.{IdSize}
use Rattle.hprof_values.specs.Basic.{width_of_basic}
use Rattle.hprof_values.specs.declared.entry.Entry.{Entry}
use Rattle.hprof_values.specs.declared.value.Static.{Static}
use Rattle.hprof_values.specs.Value.{static_of}
use Rattle.hprof_items.specs.FactValue.{FactValue}
use Rattle.hprof_heap.specs.Classes.{ClassValue, HasDump}
use Rattle.hprof_layouts.specs.declared.field_value.FieldValue.{FieldValue}
use Rattle.hprof_layouts.specs.declared.slot.Slot.{Slot}
use Rattle.hprof_layouts.specs.Fields.{values_in}
use Rattle.hprof_edges.specs.declared.edge.Via.{Via}
use Rattle.hprof_edges.specs.declared.edge.Via.TheVariants as vias
use Rattle.hprof_edges.specs.Edges.{EntryRefers, FieldRefers, OfDump, Refers}
use Rattle.hprof_reports.specs.PlaceNames.{IsFieldNamed, IsPlaceName, IsStaticNamed}

-- ---- slots by their places

-- where there is a value there is a slot
pub slot_of_value : (ids : IdSize) (slots : List Slot) (bytes : List ℕ) (place : ℕ) (value : FieldValue)
    → slice_get (values_in ids slots bytes) place ≡ Some value → (slot : Slot) × (slice_get slots place ≡ Some slot)
slot_of_value ids [] bytes place value e = absurd cc
slot_of_value ids (slot ∷ slots) bytes zero value e = (slot, refl)
slot_of_value ids (slot ∷ slots) bytes (suc place) value e =
    slot_of_value ids slots (drop (width_of_basic ids slot.basic) bytes) place value e

-- behind a front
pub behind_front : {A : Type 0} (front rest : List A) (place : ℕ) → length front ≤ place
    → slice_get (front ++ rest) place ≡ slice_get rest (place - length front)
behind_front {A} [] rest place le = ap (λ (n : ℕ). slice_get rest n) (omega arith)
behind_front (x ∷ front) rest zero le = absurd (omega (arith, le))
behind_front (x ∷ front) rest (suc place) le =
    behind_front front rest place (omega (arith, le)) ∙ ap (λ (n : ℕ). slice_get rest n) (omega arith)

-- within it
pub within_front : {A : Type 0} (front rest : List A) (place : ℕ) (x : A) → slice_get front place ≡ Some x
    → slice_get (front ++ rest) place ≡ Some x
within_front [] rest place x e = absurd cc
within_front (y ∷ front) rest zero x e = e
within_front (y ∷ front) rest (suc place) x e = within_front front rest place x e

-- ---- the name that is found

pub static_found : (facts : List FactValue) (class place : ℕ) (dump : ClassValue) (field : Static) → HasDump facts dump → dump.id ≡ class
    → Some field ≡ option_map static_of (slice_get dump.statics place) → IsStaticNamed facts class place field.name
static_found facts class place dump field has id found = go (slice_get dump.statics place) refl found where
  go : (entry : Option Entry) → slice_get dump.statics place ≡ entry → Some field ≡ option_map static_of entry
      → IsStaticNamed facts class place field.name
  go None there is = absurd cc
  go (Some entry) there is =
      let same : field ≡ static_of entry = cc in
      record { dump = dump; has = has; id = id; entry = entry; there = there; name_is = ap (λ (s : Static). s.name) same }

-- ---- an edge has a place

-- the entry at the place of a static field
static_there : (facts : List FactValue) (class place to : ℕ) → OfDump facts class (λ dump. EntryRefers dump.statics place to)
    → (name : ℕ) × IsStaticNamed facts class place name
static_there facts class place to of = (
  of.holds.entry.number,
  record { dump = of.dump; has = of.has; id = of.id; entry = of.holds.entry; there = of.holds.there; name_is = refl },
)

-- the slot at the place of a field
field_there : (ids : IdSize) (facts : List FactValue) (object place to : ℕ) → FieldRefers ids facts object place to
    → (name : ℕ) × IsFieldNamed facts object place name
field_there ids facts object place to refers =
    let values = refers.reference.values_are in
    let there = subst (λ (l : List FieldValue). slice_get l place ≡ Some refers.reference.value) values.values_are refers.reference.there in
    let slot = slot_of_value ids values.slots refers.bytes place refers.reference.value there in (
      slot.0.name,
      record {
        class = refers.class;
        bytes = refers.bytes;
        instance = refers.instance;
        slots = values.slots;
        known = values.known;
        slot = slot.0;
        there = slot.1;
        name_is = refl;
      },
    )

-- the name of the place of an edge
pub place_exists : (ids : IdSize) (facts : List FactValue) (from : ℕ) (via : Via) (place to : ℕ) → Refers ids facts from via place to
    → (name : Option ℕ) × IsPlaceName facts from via place name
place_exists ids facts from vias.Static place to refers = let some = static_there facts from place to refers in (Some some.0, some.1)
place_exists ids facts from vias.Field place to refers = let some = field_there ids facts from place to refers in (Some some.0, some.1)
place_exists ids facts from vias.Class place to refers = (None, refl)
place_exists ids facts from vias.Parent place to refers = (None, refl)
place_exists ids facts from vias.Loader place to refers = (None, refl)
place_exists ids facts from vias.Signers place to refers = (None, refl)
place_exists ids facts from vias.Domain place to refers = (None, refl)
place_exists ids facts from vias.Constant place to refers = (None, refl)
place_exists ids facts from vias.Element place to refers = (None, refl)

-- ---- the name of the place of an edge that is found

pub named_static : (ids : IdSize) (facts : List FactValue) (from place to : ℕ) (via : Via) (found : Option ℕ) → via ≡ vias.Static
    → IfSome found (IsStaticNamed facts from place) → IfNone found ((name : ℕ) → IsStaticNamed facts from place name → ⊥)
    → Refers ids facts from via place to → IsPlaceName facts from via place found
named_static ids facts from place to via (Some name) is some none refers =
    subst (λ (v : Via). IsPlaceName facts from v place (Some name)) (sym is) some
named_static ids facts from place to via None is some none refers =
    let there = static_there facts from place to (subst (λ (v : Via). Refers ids facts from v place to) is refers) in
    absurd (none there.0 there.1)

pub named_field : (ids : IdSize) (facts : List FactValue) (from place to : ℕ) (via : Via) (found : Option ℕ) → via ≡ vias.Field
    → ((named : ℕ) → IsFieldNamed facts from place named → found ≡ Some named) → Refers ids facts from via place to
    → IsPlaceName facts from via place found
named_field ids facts from place to via found is named refers =
    let there = field_there ids facts from place to (subst (λ (v : Via). Refers ids facts from v place to) is refers) in
    subst (λ (v : Via). IsPlaceName facts from v place found) (sym is)
    (subst (λ (f : Option ℕ). IsPlaceName facts from vias.Field place f) (sym (named there.0 there.1)) there.1)
