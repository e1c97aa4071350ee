-- Own fields, gathered one by one.
use Rattle.std.proofs.Common.{◌≡◌, ℕ, ◌+◌, ◌*◌, ◌^◌, ◌≤◌, Bool, true, false, cond, List, [], ◌∷◌, ◌++◌, length, refl, sym, ap, subst, ◌∙◌}
use Rattle.std.proofs.Common.{append_assoc, arith}
use Rattle.std.proofs.lemmas.List.{append-nil}
use Rattle.hprof_values.specs.declared.ids.IdSize.{IdSize}
use Rattle.hprof_values.specs.Basic.{width_of_basic}
use Rattle.hprof_layouts.specs.declared.slot.Slot.{Slot}
use Rattle.hprof_layouts.specs.Fields.{width_of_slots}
use Rattle.hprof_layouts.proofs.SlotValues.{width_small}
use Rattle.hprof_layouts.specs.declared.own_fields.OwnReference.{OwnReference}
use Rattle.hprof_layouts.specs.OwnFields.{referring}
use Rattle.hprof_layouts.specs.Refers.{refers}
use Rattle.hprof_layouts.proofs.Places.{width-cons}

-- so much was gathered of the slots, but for those that are left; there are not many
pub record Gathered (ids : IdSize) (slots left : List Slot) (width count : ℕ) (references : List OwnReference) : Type 0 where
  pub all : references ++ referring ids width count left ≡ referring ids 0 0 slots
  pub widths : width + width_of_slots ids left ≡ width_of_slots ids slots
  pub counts : count + length left ≡ length slots
  pub small : width ≤ 8 * count
  pub few : length slots ≤ 65535

pub gathered_none : (ids : IdSize) (slots : List Slot) → length slots ≤ 65535 → Gathered ids slots slots 0 0 []
gathered_none ids slots few = record { all = refl; widths = omega arith; counts = omega arith; small = omega arith; few = few }

module _ (ids : IdSize) (slots left rest : List Slot) (width count : ℕ) (references : List OwnReference) (slot : Slot)
    (was : Gathered ids slots left width count references) (next : left ≡ slot ∷ rest) where
  at_next : Gathered ids slots (slot ∷ rest) width count references
  at_next = subst (λ (l : List Slot). Gathered ids slots l width count references) next was

  -- the sums fit
  pub room : (width + 8 ≤ 2 ^ 63) × (count + 1 ≤ 2 ^ 63)
  room =
      let few = at_next.few in
      let small = at_next.small in
      let counts = at_next.counts in
      (omega arith, omega arith)

  -- with what refers to something here
  gathered_by : (t : Bool) → refers slot.basic ≡ t → Gathered ids slots rest (width + width_of_basic ids slot.basic) (count + 1)
      (references ++ cond t (record { offset = width; place = count } ∷ []) [])
  gathered_by t e =
      let split = width-cons ids slot rest in
      let widths = at_next.widths in
      let counts = at_next.counts in
      let small = at_next.small in
      let eight = width_small ids slot.basic in
      record {
        all = append_assoc references (cond t (record { offset = width; place = count } ∷ []) [])
            (referring ids (width + width_of_basic ids slot.basic) (count + 1) rest)
            ∙ ap (λ (b : Bool). references ++ (cond b (record { offset = width; place = count } ∷ []) []
            ++ referring ids (width + width_of_basic ids slot.basic) (count + 1) rest)) (sym e)
            ∙ at_next.all;
        widths = omega arith;
        counts = omega arith;
        small = omega arith;
        few = at_next.few;
      }

  pub gathered_one : refers slot.basic ≡ true → Gathered ids slots rest (width + width_of_basic ids slot.basic) (count + 1)
      (references ++ record { offset = width; place = count } ∷ [])
  gathered_one e = gathered_by true e

  pub gathered_other : refers slot.basic ≡ false → Gathered ids slots rest (width + width_of_basic ids slot.basic) (count + 1) references
  gathered_other e =
      subst (Gathered ids slots rest (width + width_of_basic ids slot.basic) (count + 1)) (append-nil references) (gathered_by false e)
