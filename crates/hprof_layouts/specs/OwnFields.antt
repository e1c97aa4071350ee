-- The own fields of a class, and what fields refer to.
use Rattle.std.specs.Prelude.{◌≡◌, ℕ, ◌+◌, List, [], ◌∷◌, ◌++◌, length, drop, if◌then◌else◌}
use Rattle.byteorder.specs.Endian.{big_number}
use Rattle.hprof_values.specs.declared.ids.IdSize.{IdSize}
use Rattle.hprof_values.specs.Basic.{width_of_basic}
use Rattle.hprof_layouts.specs.declared.slot.Slot.{Slot}
use Rattle.hprof_layouts.specs.Fields.{width_of_slots}
use Rattle.hprof_layouts.specs.declared.reference.Reference.{Reference}
use Rattle.hprof_layouts.specs.declared.own_fields.OwnReference.{OwnReference}
use Rattle.hprof_layouts.specs.declared.own_fields.OwnLayout.{OwnLayout}
use Rattle.hprof_layouts.specs.Refers.{refers}

-- the fields that refer to something, each with what lies before it, where so many bytes and fields lie before the first
abbrev pub referring : IdSize → ℕ → ℕ → List Slot → List OwnReference
referring ids offset place [] = []
referring ids offset place (slot ∷ slots) =
    (if refers slot.basic then record { offset = offset; place = place } ∷ [] else [])
    ++ referring ids (offset + width_of_basic ids slot.basic) (place + 1) slots

-- these are own fields that have these slots, one behind the other
pub record IsOwn (ids : IdSize) (slots : List Slot) (own : OwnLayout) : Type 0 where
  pub width_is : own.width ≡ width_of_slots ids slots
  pub count_is : own.count ≡ length slots
  pub references_are : own.references.items ≡ referring ids 0 0 slots

-- what the fields refer to whose values the bytes are, where so many fields stand before the first
abbrev pub references_in : IdSize → ℕ → List Slot → List ℕ → List Reference
references_in ids place [] bytes = []
references_in ids place (slot ∷ slots) bytes =
    (if refers slot.basic then record { place = place; to = big_number (width_of_basic ids slot.basic) bytes } ∷ [] else [])
    ++ references_in ids (place + 1) slots (drop (width_of_basic ids slot.basic) bytes)
