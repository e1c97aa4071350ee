-- Cutting bytes by the widths of slots.
use Rattle.std.proofs.lemmas.List.Sums.{sum_by-cons}
use Rattle.std.proofs.Common.{◌≡◌, ℕ, ◌+◌, ◌*◌, ◌<◌, ◌≤◌, List, [], ◌∷◌, ◌++◌, length, get_or, drop, sym, ap, ◌∙◌}
use Rattle.std.proofs.Common.{append_assoc, arith, length-drop}
use Rattle.hprof_values.specs.declared.ids.IdSize.{IdSize}
use Rattle.hprof_values.specs.declared.ids.IdSize.TheVariants as sizes
use Rattle.hprof_values.specs.declared.basic.Basic.{Basic}
use Rattle.hprof_values.specs.declared.basic.Basic.TheVariants as basics
use Rattle.hprof_values.specs.Basic.{width_of_basic}
use Rattle.hprof_rows.proofs.Tables.{drop_from}
use Rattle.hprof_layouts.specs.declared.slot.Slot.{Slot}
use Rattle.hprof_layouts.specs.declared.field_value.FieldValue.{FieldValue}
use Rattle.hprof_layouts.specs.Fields.{width_of_slots, value_at, values_in}

-- a value has eight bytes at most
pub width_small : (ids : IdSize) (basic : Basic) → width_of_basic ids basic ≤ 8
width_small sizes.Four basics.Array = omega arith
width_small sizes.Eight basics.Array = omega arith
width_small sizes.Four basics.Object = omega arith
width_small sizes.Eight basics.Object = omega arith
width_small ids basics.Boolean = omega arith
width_small ids basics.Char = omega arith
width_small ids basics.Float = omega arith
width_small ids basics.Double = omega arith
width_small ids basics.Byte = omega arith
width_small ids basics.Short = omega arith
width_small ids basics.Int = omega arith
width_small ids basics.Long = omega arith

-- ---- the slot at a place

module _ (ids : IdSize) (slots : List Slot) (place : ℕ) (slot : Slot) (within : place < length slots)
    (is : slot ≡ get_or slots place slot) where
  next_slot : drop place slots ≡ slot ∷ drop (place + 1) slots
  next_slot = drop_from slots place slot within ∙ ap (λ (s : Slot). s ∷ drop (place + 1) slots) (sym is)

  next_width : width_of_slots ids (drop place slots) ≡ width_of_basic ids slot.basic + width_of_slots ids (drop (place + 1) slots)
  next_width =
      ap (λ (l : List Slot). width_of_slots ids l) next_slot
      ∙ sum_by-cons (λ (s : Slot). width_of_basic ids s.basic) slot (drop (place + 1) slots)

-- ---- counting

-- so much was counted of the widths of the slots before that place
pub record Counted (ids : IdSize) (slots : List Slot) (place width : ℕ) : Type 0 where
  pub all : width + width_of_slots ids (drop place slots) ≡ width_of_slots ids slots
  pub small : width ≤ 8 * place

pub counted_more : (ids : IdSize) (slots : List Slot) (place width : ℕ) (slot : Slot) → Counted ids slots place width → place < length slots
    → slot ≡ get_or slots place slot → Counted ids slots (place + 1) (width + width_of_basic ids slot.basic)
counted_more ids slots place width slot counted within is =
    let split = next_width ids slots place slot within is in
    let few = width_small ids slot.basic in
    let a = counted.all in
    let s = counted.small in
    record { all = omega arith; small = omega arith }

-- ---- cutting

-- the values before that place were cut, and those behind fill the rest
pub record Cut (ids : IdSize) (slots : List Slot) (bytes : List ℕ) (place : ℕ) (values : List FieldValue) (rest : List ℕ) : Type 0 where
  pub all : values ++ values_in ids (drop place slots) rest ≡ values_in ids slots bytes
  pub fills : width_of_slots ids (drop place slots) ≡ length rest

module _ (ids : IdSize) (slots : List Slot) (bytes : List ℕ) (place : ℕ) (values : List FieldValue) (rest : List ℕ) (slot : Slot)
    (done : Cut ids slots bytes place values rest) (within : place < length slots) (is : slot ≡ get_or slots place slot) where
  -- the next value lies in the rest
  pub cut_fits : width_of_basic ids slot.basic ≤ length rest
  cut_fits =
      let split = next_width ids slots place slot within is in
      let f = done.fills in
      omega arith

  pub cut_more : Cut ids slots bytes (place + 1) (values ++ value_at ids slot rest ∷ []) (drop (width_of_basic ids slot.basic) rest)
  cut_more =
      let split = next_width ids slots place slot within is in
      let left = length-drop (width_of_basic ids slot.basic) rest in
      let f = done.fills in
      let others = drop (width_of_basic ids slot.basic) rest in
      record {
        all = append_assoc values (value_at ids slot rest ∷ []) (values_in ids (drop (place + 1) slots) others)
            ∙ sym (ap (λ (l : List Slot). values ++ values_in ids l rest) (next_slot ids slots place slot within is)) ∙ done.all;
        fills = omega arith;
      }
