-- The layout of a class: heapDumper.cpp, "HPROF binary format", HPROF_GC_INSTANCE_DUMP: instance field values, this class,
-- then its super class, and so on.
use Rattle.std.specs.Prelude.{◌≡◌, ◌≢◌, ℕ, List, [], length, map}
use Rattle.std.specs.List.{flat_map}
use Rattle.hprof_values.specs.declared.value.Field.{Field}
use Rattle.hprof_values.specs.Value.{field_of}
use Rattle.hprof_items.specs.FactValue.{FactValue}
use Rattle.hprof_layouts.specs.declared.slot.Slot.{Slot}
use Rattle.hprof_layouts.specs.declared.slot.Layout.{Layout}
use Rattle.hprof_layouts.specs.declared.slot.Layout.TheVariants as layouts
use Rattle.hprof_layouts.specs.declared.chain.ChainEnd.{ChainEnd}
use Rattle.hprof_layouts.specs.declared.chain.ChainEnd.TheVariants as ends
use Rattle.hprof_heap.specs.Classes.{ClassValue, HasNoDump}
use Rattle.hprof_layouts.specs.Chain.{IsChain}

-- the slot of an own field of a class
abbrev pub slot_of : ℕ → Field → Slot
slot_of class field = record { class = class; name = field.name; basic = field.basic }

-- the slots of the own fields of a class
abbrev pub own_slots : ClassValue → List Slot
own_slots dump = map (slot_of dump.id) (map field_of dump.fields)

-- the slots of the own fields of each class, in the order of the chain
abbrev pub slots_of : List ClassValue → List Slot
slots_of dumps = flat_map own_slots dumps

-- a layout as a value
pub data LayoutValue : Type 0 where
  Known : (slots : List Slot) → LayoutValue
  Missing : (class : ℕ) → LayoutValue
  Cyclic : LayoutValue

abbrev pub layout_value : Layout → LayoutValue
layout_value (layouts.Known slots) = Known slots.items
layout_value (layouts.Missing class) = Missing class
layout_value layouts.Cyclic = Cyclic

-- the chain comes to 0: these are the slots
pub record IsKnown (facts : List FactValue) (class : ℕ) (slots : List Slot) : Type 0 where
  pub dumps : List ClassValue
  pub chain : IsChain facts class dumps 0
  pub slots_are : slots ≡ slots_of dumps

-- the chain comes to 0, through so many classes
pub record HasChain (facts : List FactValue) (class count : ℕ) : Type 0 where
  pub dumps : List ClassValue
  pub chain : IsChain facts class dumps 0
  pub counted : length dumps ≡ count

-- the chain comes to a class that has no dump
pub record IsMissing (facts : List FactValue) (class missing : ℕ) : Type 0 where
  pub dumps : List ClassValue
  pub chain : IsChain facts class dumps missing
  pub not_zero : missing ≢ 0
  pub no_dump : HasNoDump facts missing

-- the chain comes to a class, and to it again
pub record IsCyclic (facts : List FactValue) (class : ℕ) : Type 0 where
  pub dumps : List ClassValue
  pub ring : List ClassValue
  pub again : ℕ
  pub chain : IsChain facts class dumps again
  pub turns : IsChain facts again ring again
  pub not_empty : ring ≢ []

abbrev pub IsLayout : List FactValue → ℕ → LayoutValue → Type 0
IsLayout facts class (Known slots) = IsKnown facts class slots
IsLayout facts class (Missing missing) = IsMissing facts class missing
IsLayout facts class Cyclic = IsCyclic facts class

-- the chain of a class, as far as it is found without its slots
abbrev pub EndsAs : List FactValue → ℕ → ChainEnd → Type 0
EndsAs facts class (ends.Zero count) = HasChain facts class count
EndsAs facts class (ends.Missing missing) = IsMissing facts class missing
EndsAs facts class ends.Cyclic = IsCyclic facts class
