-- The fields of an object: the bytes of an instance, cut by the widths of the slots of its class.
use Rattle.std.specs.Prelude.{◌≡◌, ◌≢◌, ℕ, List, [], ◌∷◌, length, drop, sum_by}
use Rattle.byteorder.specs.Endian.{big_number}
use Rattle.hprof_values.specs.declared.ids.IdSize.{IdSize}
use Rattle.hprof_values.specs.declared.basic.Basic.{Basic}
use Rattle.hprof_values.specs.Basic.{width_of_basic}
use Rattle.hprof_items.specs.FactValue.{FactValue}
use Rattle.hprof_heap.specs.Objects.{HasInstance, HasElements, HasNumbers, HasNoObject}
use Rattle.hprof_layouts.specs.declared.slot.Slot.{Slot}
use Rattle.hprof_layouts.specs.declared.field_value.FieldValue.{FieldValue}
use Rattle.hprof_layouts.specs.declared.field_value.Fields.{Fields}
use Rattle.hprof_layouts.specs.declared.field_value.Fields.TheVariants as fields
use Rattle.hprof_layouts.specs.Layout.{IsKnown, IsMissing, IsCyclic}

-- ---- cutting

-- how many bytes the values of the slots have
abbrev pub width_of_slots : IdSize → List Slot → ℕ
width_of_slots ids slots = sum_by (λ slot. width_of_basic ids slot.basic) slots

-- the value of a slot at the front of the bytes
abbrev pub value_at : IdSize → Slot → List ℕ → FieldValue
value_at ids slot bytes = record {
  class = slot.class;
  name = slot.name;
  basic = slot.basic;
  bits = big_number (width_of_basic ids slot.basic) bytes;
}

-- the values of the slots, one behind the other
abbrev pub values_in : IdSize → List Slot → List ℕ → List FieldValue
values_in ids [] bytes = []
values_in ids (slot ∷ slots) bytes = value_at ids slot bytes ∷ values_in ids slots (drop (width_of_basic ids slot.basic) bytes)

-- ---- what is answered

-- the fields of an object as a value
pub data FieldsValue : Type 0 where
  Values : (values : List FieldValue) → FieldsValue
  Missing : (class : ℕ) → FieldsValue
  Cyclic : FieldsValue
  WidthDiffers : (width : ℕ) → FieldsValue
  NotAnInstance : FieldsValue
  NoObject : FieldsValue

abbrev pub fields_value : Fields → FieldsValue
fields_value (fields.Values values) = Values values.items
fields_value (fields.Missing class) = Missing class
fields_value fields.Cyclic = Cyclic
fields_value (fields.WidthDiffers width) = WidthDiffers width
fields_value fields.NotAnInstance = NotAnInstance
fields_value fields.NoObject = NoObject

-- ---- what it means

-- the class has a known layout, and the bytes are its values
pub record HasValues (ids : IdSize) (facts : List FactValue) (class : ℕ) (bytes : List ℕ) (values : List FieldValue) : Type 0 where
  pub slots : List Slot
  pub known : IsKnown facts class slots
  pub fills : width_of_slots ids slots ≡ length bytes
  pub values_are : values ≡ values_in ids slots bytes

-- the class has a known layout of so many bytes, and these are another number
pub record DiffersInWidth (ids : IdSize) (facts : List FactValue) (class : ℕ) (bytes : List ℕ) (width : ℕ) : Type 0 where
  pub slots : List Slot
  pub known : IsKnown facts class slots
  pub width_is : width ≡ width_of_slots ids slots
  pub differs : width ≢ length bytes

-- these are the fields of an instance of the class that has these bytes
abbrev pub AreInstanceFields : IdSize → List FactValue → ℕ → List ℕ → FieldsValue → Type 0
AreInstanceFields ids facts class bytes (Values values) = HasValues ids facts class bytes values
AreInstanceFields ids facts class bytes (Missing missing) = IsMissing facts class missing
AreInstanceFields ids facts class bytes Cyclic = IsCyclic facts class
AreInstanceFields ids facts class bytes (WidthDiffers width) = DiffersInWidth ids facts class bytes width
AreInstanceFields ids facts class bytes NotAnInstance = ⊥
AreInstanceFields ids facts class bytes NoObject = ⊥

-- the object is an instance, and these are its fields
pub record OfInstance (ids : IdSize) (facts : List FactValue) (object : ℕ) (fields : FieldsValue) : Type 0 where
  pub class : ℕ
  pub bytes : List ℕ
  pub instance : HasInstance facts object class bytes
  pub fields_are : AreInstanceFields ids facts class bytes fields

-- the object is an array
pub data HasArray (facts : List FactValue) (object : ℕ) : Type 0 where
  OfObjects : (class : ℕ) (elements : List ℕ) → HasElements facts object class elements → HasArray facts object
  OfNumbers : (elem : Basic) (bytes : List ℕ) → HasNumbers facts object elem bytes → HasArray facts object

-- these are the fields of the object
abbrev pub AreFields : IdSize → List FactValue → ℕ → FieldsValue → Type 0
AreFields ids facts object NoObject = HasNoObject facts object
AreFields ids facts object NotAnInstance = HasArray facts object
AreFields ids facts object fields = OfInstance ids facts object fields
