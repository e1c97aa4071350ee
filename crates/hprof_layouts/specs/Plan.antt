-- What is kept of a class whose layout is known.
use Rattle.std.specs.Prelude.{◌≡◌, ◌≢◌, ◌==◌, ℕ, ◌+◌, ◌-◌, ◌^◌, ◌<◌, min, List, ◌++◌, length, Option, Some, None, if◌then◌else◌, vec_len}
use Rattle.std.specs.Option.{option_map}
use Rattle.hprof_values.specs.declared.ids.IdSize.{IdSize}
use Rattle.hprof_items.specs.FactValue.{FactValue}
use Rattle.hprof_heap.specs.Classes.{ClassValue, HasDump}
use Rattle.hprof_layouts.specs.declared.slot.Slot.{Slot}
use Rattle.hprof_layouts.specs.Layout.{IsKnown, own_slots}
use Rattle.hprof_layouts.specs.Fields.{width_of_slots}
use Rattle.hprof_layouts.specs.declared.own_fields.OwnReference.{OwnReference}
use Rattle.hprof_layouts.specs.declared.own_fields.OwnLayout.{OwnLayout}
use Rattle.hprof_layouts.specs.declared.plan.Jump.{Jump}
use Rattle.hprof_layouts.specs.declared.plan.Outline.{Outline}
use Rattle.hprof_layouts.specs.declared.plan.Plan.{Plan}
use Rattle.hprof_layouts.specs.Refers.{NoneRefers}
use Rattle.hprof_layouts.specs.OwnFields.{IsOwn}

-- the greatest numbers of 64 and of 128 bits
abbrev pub most : ℕ
most = 2 ^ 64 - 1

abbrev pub most_wide : ℕ
most_wide = 2 ^ 128 - 1

-- no class has two dumps
abbrev pub NoTwoDumps : List FactValue → Type 0
NoTwoDumps facts = (one other : ClassValue) → HasDump facts one → HasDump facts other → one.id ≡ other.id → one ≡ other

-- ---- what it means

-- behind so many bytes and fields of the slots, none of which refers to anything, lie those of the class, which has own fields
pub record IsJump (ids : IdSize) (facts : List FactValue) (slots : List Slot) (jump : Jump) : Type 0 where
  pub before : List Slot
  pub rest : List Slot
  pub slots_are : slots ≡ before ++ rest
  pub none_refers : NoneRefers before
  pub offset_is : jump.offset ≡ min (width_of_slots ids before) most
  pub place_is : jump.place ≡ min (length before) most
  pub not_zero : jump.class ≢ 0
  pub known : IsKnown facts jump.class rest
  pub dump : ClassValue
  pub has : HasDump facts dump
  pub id : dump.id ≡ jump.class
  pub some : 0 < width_of_slots ids (own_slots dump)

-- where laying goes on among the slots, before any of them that refers to something; nowhere only where none does
abbrev pub IsFirstJump : IdSize → List FactValue → List Slot → Option Jump → Type 0
IsFirstJump ids facts slots None = NoneRefers slots
IsFirstJump ids facts slots (Some jump) = IsJump ids facts slots jump

-- the outline of a layout that has these slots
pub record IsOutline (ids : IdSize) (facts : List FactValue) (slots : List Slot) (outline : Outline) : Type 0 where
  pub width_is : outline.width ≡ min (width_of_slots ids slots) most_wide
  pub first_is : IsFirstJump ids facts slots outline.first

-- the plan of a class whose layout has these slots: its own, more behind them that are kept together with them, and those that are left
pub record IsPlan (ids : IdSize) (facts : List FactValue) (class : ℕ) (slots : List Slot) (plan : Plan) : Type 0 where
  pub not_zero : class ≢ 0
  pub dump : ClassValue
  pub has : HasDump facts dump
  pub id : dump.id ≡ class
  pub known : IsKnown facts class slots
  pub more : List Slot
  pub left : List Slot
  pub slots_are : slots ≡ (own_slots dump ++ more) ++ left
  pub width_is : plan.width ≡ min (width_of_slots ids slots) most_wide
  pub own_are : IsOwn ids (own_slots dump ++ more) plan.own
  pub above_is : IsFirstJump ids facts left plan.above
  -- where it refers to something, it begins with own fields
  pub begins : 0 < vec_len plan.own.references → 0 < width_of_slots ids (own_slots dump)

-- the plan of a class that has these own fields, below a layout that has these slots
abbrev pub IsPlanBelow : IdSize → List FactValue → List Slot → OwnLayout → Plan → Type 0
IsPlanBelow ids facts slots own plan = (dump : ClassValue) → dump.id ≢ 0 → HasDump facts dump → IsOwn ids (own_slots dump) own
    → IsKnown facts dump.parent slots → IsPlan ids facts dump.id (own_slots dump ++ slots) plan

-- ---- how one comes from another

-- a field that refers to something, behind so many more bytes and fields
abbrev pub reference_behind : ℕ → ℕ → OwnReference → OwnReference
reference_behind offset place own = record { offset = min (own.offset + offset) most; place = min (own.place + place) most }

-- the jump, from own fields on that stand before
abbrev pub jump_behind : OwnLayout → Jump → Jump
jump_behind own jump = record {
  class = jump.class;
  at = jump.at;
  offset = min (jump.offset + own.width) most;
  place = min (jump.place + own.count) most;
}

-- the plan of a class with these own fields, below a layout of that outline; it is put in at that place
abbrev pub plan_below : Outline → ℕ → OwnLayout → Plan
plan_below outline at own = record {
  at = at;
  width = min (outline.width + own.width) most_wide;
  own = own;
  above = outline.first;
}

-- the outline of a layout that has no slots
abbrev pub no_outline : Outline
no_outline = record { width = 0; first = None }

-- the outline of the layout of a class that has the plan
abbrev pub outline_of : ℕ → Plan → Outline
outline_of class plan = record {
  width = plan.width;
  first = if vec_len plan.own.references == 0 then option_map (jump_behind plan.own) plan.above
      else Some (record { class = class; at = plan.at; offset = 0; place = 0 });
}

-- the outline of the layout of a class that has the plan, or none; class 0 has none, and its layout has no slots
abbrev pub outline_at : ℕ → Option Plan → Outline
outline_at class None = no_outline
outline_at class (Some plan) = outline_of class plan
