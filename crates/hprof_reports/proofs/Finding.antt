-- The field at a place of a layout, found class by class.
use Rattle.std.specs.Prelude.{◌≢◌}
use Rattle.std.proofs.Common.{◌≡◌, ◌-◌, ◌<◌, ◌≤◌, ℕ, zero, suc, List, [], ◌∷◌, ◌++◌, length, map, Option, Some, None, refl, sym, ap, subst}
use Rattle.std.proofs.Common.{◌∙◌, arith}
use Rattle.std.specs.List.{AllByRecursion, slice_get}
use Rattle.std.specs.Option.{option_map}
use Rattle.std.proofs.lemmas.List.{length-map}
use Rattle.std.proofs.lemmas.Option.{slice_get-map}
use Rattle.hprof_values.specs.declared.entry.Entry.{Entry}
use Rattle.hprof_values.specs.declared.value.Field.{Field}
use Rattle.hprof_values.specs.Value.{field_of}
use Rattle.hprof_items.specs.FactValue.{FactValue}
use Rattle.hprof_rows.specs.declared.table.Table.TheVariants as tables
use Rattle.hprof_rows.specs.Conflict.{IsConsistent}
use Rattle.hprof_rows.specs.Tables.{facts_of_table}
use Rattle.hprof_heap.specs.Classes.{ClassValue, HasDump, HasNoDump}
use Rattle.hprof_layouts.specs.declared.slot.Slot.{Slot}
use Rattle.hprof_layouts.specs.Layout.{IsKnown, own_slots, slot_of}
use Rattle.hprof_reports.specs.Skipped.{HasSameLayout, IsKnownWithin}
use Rattle.hprof_reports.proofs.KnownChains.{has_dump, known_above, known_within, same_further, some_class}
use Rattle.hprof_reports.proofs.Places.{behind_front, within_front}

-- ---- classes that were passed over

pub all_passed : (facts : List FactValue) (passed : List ℕ) (at next : ℕ)
    → AllByRecursion (λ (class : ℕ). HasSameLayout facts class at) passed
    → HasSameLayout facts at next → AllByRecursion (λ (class : ℕ). HasSameLayout facts class next) (passed ++ at ∷ [])
all_passed facts [] at next all same = (same, tt)
all_passed facts (class ∷ passed) at next all same =
    (same_further facts class at next all.0 same, all_passed facts passed at next all.1 same)

-- ---- lists

-- the place is past the end where nothing is there
past_end : {A : Type 0} (xs : List A) (place : ℕ) → slice_get xs place ≡ None → length xs ≤ place
past_end [] place none = omega arith
past_end (x ∷ xs) zero none = absurd cc
past_end (x ∷ xs) (suc place) none = let rest = past_end xs place none in omega (arith, rest)

own_count : (dump : ClassValue) → length (own_slots dump) ≡ length dump.fields
own_count dump = length-map (map field_of dump.fields) (slot_of dump.id) ∙ length-map dump.fields field_of

-- the slot of an own field
own_slot : (dump : ClassValue) (place : ℕ) (entry : Entry) → slice_get dump.fields place ≡ Some entry
    → slice_get (own_slots dump) place ≡ Some (slot_of dump.id (field_of entry))
own_slot dump place entry there =
    slice_get-map (slot_of dump.id) (map field_of dump.fields) place
    ∙ ap (option_map (slot_of dump.id)) (slice_get-map field_of dump.fields place ∙ ap (option_map field_of) there)

-- ---- what is still to be found

-- the field at the place of the layout of the class is the one at this place of the layout of that class, from which at most so many
-- classes
-- are left
pub record IsStillAt (facts : List FactValue) (class place at before left : ℕ) : Type 0 where
  pub found : (slots : List Slot) (slot : Slot) → IsKnown facts class slots → slice_get slots place ≡ Some slot
      → (rest : List Slot) × IsKnownWithin facts at rest left × (slice_get rest before ≡ Some slot)

-- before the first class
pub still_all : (facts : List FactValue) (class place count : ℕ) → IsConsistent facts → length (facts_of_table tables.Classes facts) ≤ count
    → IsStillAt facts class place class place count
still_all facts class place count agree enough = record {
  found = λ slots slot known there.
      let within = known_within facts class slots agree known in
      let few = within.few in (
        slots,
        record { dumps = within.dumps; chain = within.chain; slots_are = within.slots_are; few = omega (arith, few, enough) },
        there,
      );
}

-- in other numbers
pub still_same : (facts : List FactValue) (class place at before before_too left left_too : ℕ) → before ≡ before_too → left ≡ left_too
    → IsStillAt facts class place at before left → IsStillAt facts class place at before_too left_too
still_same facts class place at before before_too left left_too e f still =
    subst (λ (n : ℕ). IsStillAt facts class place at before_too n) f (subst (λ (n : ℕ). IsStillAt facts class place at n left) e still)

module _ (facts : List FactValue) (class place at before left : ℕ) (still : IsStillAt facts class place at before left) where
  -- past classes without own fields
  pub still_past : (next : ℕ) → HasSameLayout facts at next → IsStillAt facts class place next before left
  still_past next same = record {
    found = λ slots slot known there. (let it = still.found slots slot known there in (it.0, same it.0 left it.1, it.2));
  }

  -- a layout that has the place is of a class, and some class is left
  some_left : (slots : List Slot) (slot : Slot) → IsKnown facts class slots → slice_get slots place ≡ Some slot → (at ≢ 0) × (0 < left)
  some_left slots slot known there = let it = still.found slots slot known there in go it.0 it.1 it.2 where
    go : (rest : List Slot) → IsKnownWithin facts at rest left → slice_get rest before ≡ Some slot → (at ≢ 0) × (0 < left)
    go [] within is = absurd cc
    go (first ∷ rest) within is = some_class facts at left (first ∷ rest) first rest refl within

  pub not_at_end : left ≡ 0 → (slots : List Slot) (slot : Slot) → IsKnown facts class slots → slice_get slots place ≡ Some slot → ⊥
  not_at_end none slots slot known there = let some = (some_left slots slot known there).1 in omega (arith, some, none)

  -- it has a dump
  pub not_missing : HasNoDump facts at → (slots : List Slot) (slot : Slot) → IsKnown facts class slots → slice_get slots place ≡ Some slot
      → ⊥
  not_missing none slots slot known there =
      let it = still.found slots slot known there in
      has_dump facts at left it.0 (some_left slots slot known there).0 none it.1

  module _ (dump : ClassValue) (only : (other : ClassValue) → HasDump facts other → other.id ≡ at → dump ≡ other) where
    -- the field is one of its own
    pub found_here : (field : Field) → Some field ≡ option_map field_of (slice_get dump.fields before)
        → (slots : List Slot) (slot : Slot) → IsKnown facts class slots → slice_get slots place ≡ Some slot → Some field.name
        ≡ Some slot.name
    found_here field is slots slot known there = go (slice_get dump.fields before) refl is where
      go : (entry : Option Entry) → slice_get dump.fields before ≡ entry → Some field ≡ option_map field_of entry → Some field.name
          ≡ Some slot.name
      go None e none = absurd cc
      go (Some entry) e same =
          let it = still.found slots slot known there in
          let above = known_above facts at left it.0 dump only (some_left slots slot known there).0 it.1 in
          let own = within_front (own_slots dump) above.above before (slot_of dump.id (field_of entry)) (own_slot dump before entry e) in
          let both : Some slot ≡ Some (slot_of dump.id (field_of entry)) =
          sym it.2 ∙ ap (λ (l : List Slot). slice_get l before) above.slots_are ∙ own in
          let one : slot ≡ slot_of dump.id (field_of entry) = cc in
          let field_is : field ≡ field_of entry = cc in
          ap Some (ap (λ (f : Field). f.name) field_is ∙ sym (ap (λ (s : Slot). s.name) one))

    -- it is further up
    pub still_above : None ≡ option_map field_of (slice_get dump.fields before)
        → IsStillAt facts class place dump.parent (before - length dump.fields) (left - 1)
    still_above none = record {
      found = λ slots slot known there.
          let it = still.found slots slot known there in
          let above = known_above facts at left it.0 dump only (some_left slots slot known there).0 it.1 in
          let past = past_end dump.fields before (no_entry (slice_get dump.fields before) none) in
          let counted = own_count dump in (
            above.above,
            above.known,
            ap (λ (n : ℕ). slice_get above.above n) (omega (arith, counted))
                ∙ sym (behind_front (own_slots dump) above.above before (omega (arith, counted, past)))
                ∙ ap (λ (l : List Slot). slice_get l before) (sym above.slots_are) ∙ it.2,
          );
    } where
      no_entry : (entry : Option Entry) → None ≡ option_map field_of entry → entry ≡ None
      no_entry None e = refl
      no_entry (Some entry) e = absurd cc
