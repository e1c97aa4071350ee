-- The text of an object, this project's own: of an array of chars or bytes, or of a string, which refers to one. Strings of JDK 8 have a
-- field `value` that refers to a char array; those of JDK 9 and later have one that refers to a byte array, and a field `coder`.
use Rattle.std.specs.Prelude.{◌≡◌, ℕ, ◌%◌, ◌==◌, ◌&&◌, Bool, true, false, if◌then◌else◌, List, ◌∷◌, ◌++◌, length, Option, Some, None, codes}
use Rattle.std.specs.List.{AllByRecursion}
use Rattle.hprof_values.specs.declared.ids.IdSize.{IdSize}
use Rattle.hprof_values.specs.declared.basic.Basic.{Basic}
use Rattle.hprof_values.specs.declared.basic.Basic.TheVariants as basics
use Rattle.hprof_items.specs.FactValue.{FactValue, Instance, PrimArray}
use Rattle.hprof_heap.specs.Classes.{ClassValue}
use Rattle.hprof_heap.specs.Found.{IsClassFound, IsObjectFound}
use Rattle.hprof_heap.specs.Names.{HasName}
use Rattle.hprof_layouts.specs.declared.field_value.FieldValue.{FieldValue}
use Rattle.hprof_layouts.specs.Fields.{FieldsValue, Values, AreFields}
use Rattle.hprof_layouts.specs.Refers.{refers}
use Rattle.hprof_naming.specs.declared.text.Coding.TheVariants as codings
use Rattle.hprof_naming.specs.declared.text.Text.{Text}
use Rattle.hprof_naming.specs.declared.text.Text.TheVariants as texts
use Rattle.hprof_naming.specs.Units.{units_of}

-- the text of an object as a value
pub data TextValue : Type 0 where
  Units : (units : List ℕ) → TextValue
  NoText : TextValue
  Nothing : TextValue

abbrev pub text_value : Text → TextValue
text_value (texts.Units units) = Units (units_of units.coding units.bytes.now)
text_value texts.NoText = NoText
text_value texts.Nothing = Nothing

-- ---- arrays

-- an array of chars is its elements; one of bytes is Latin-1, or UTF-16 if it is wide and each unit has two bytes
abbrev pub array_text : (is_wide : Bool) → FactValue → TextValue
array_text is_wide (PrimArray id trace basics.Char bytes) = Units (units_of codings.Chars bytes)
array_text false (PrimArray id trace basics.Byte bytes) = Units (units_of codings.Latin1 bytes)
array_text true (PrimArray id trace basics.Byte bytes) =
    if length bytes % 2 == 0 then Units (units_of codings.Utf16 bytes) else NoText
array_text is_wide fact = NoText

-- the text of the array that a field refers to, if it refers to one
abbrev pub referred_text : (is_wide : Bool) → Option FactValue → TextValue
referred_text is_wide (Some fact) = array_text is_wide fact
referred_text is_wide None = NoText

-- ---- fields

-- it is the first of the values whose name has just these bytes; none has
abbrev pub IsFirstNamed : List FactValue → List ℕ → List FieldValue → Option FieldValue → Type 0
IsFirstNamed facts word values (Some value) = (before : List FieldValue) × (after : List FieldValue) × (values ≡ before ++ value ∷ after)
    × HasName facts value.name word × AllByRecursion (λ other. ¬ (HasName facts other.name word)) before
IsFirstNamed facts word values None = AllByRecursion (λ other. ¬ (HasName facts other.name word)) values

abbrev pub is_byte : Basic → Bool
is_byte basics.Byte = true
is_byte basic = false

-- the field `coder` says that the bytes are UTF-16: java.lang.String, UTF16 is 1
abbrev pub is_wide_coder : Option FieldValue → Bool
is_wide_coder (Some coder) = is_byte coder.basic && coder.bits == 1
is_wide_coder None = false

-- the identifier that a field refers to; 0 if it refers to nothing
abbrev pub target_of_field : Option FieldValue → ℕ
target_of_field (Some field) = if refers field.basic then field.bits else 0
target_of_field None = 0

-- the text of an instance with these values: of the array that its field `value` refers to
pub record IsStringText (facts : List FactValue) (values : List FieldValue) (text : TextValue) : Type 0 where
  pub value : Option FieldValue
  pub is_value : IsFirstNamed facts (codes "value") values value
  pub coder : Option FieldValue
  pub is_coder : IsFirstNamed facts (codes "coder") values coder
  pub array : Option FactValue
  pub is_array : IsObjectFound facts (target_of_field value) array
  pub is : text ≡ (if target_of_field value == 0 then NoText else referred_text (is_wide_coder coder) array)

-- ---- objects

-- the text of an instance with these fields
abbrev pub IsInstanceText : List FactValue → FieldsValue → TextValue → Type 0
IsInstanceText facts (Values values) text = IsStringText facts values text
IsInstanceText facts other text = text ≡ NoText

-- the text of what is found: an object dump is read, and a class dump alone has no text
abbrev pub IsFoundText : List FactValue → FieldsValue → Option ClassValue → Option FactValue → TextValue → Type 0
IsFoundText facts fields None None text = text ≡ Nothing
IsFoundText facts fields (Some dump) None text = text ≡ NoText
IsFoundText facts fields class (Some (Instance id trace of_class bytes)) text = IsInstanceText facts fields text
IsFoundText facts fields class (Some fact) text = text ≡ array_text false fact

-- the text of an identifier
pub record IsText (ids : IdSize) (facts : List FactValue) (id : ℕ) (text : TextValue) : Type 0 where
  pub class : Option ClassValue
  pub class_found : IsClassFound facts id class
  pub object : Option FactValue
  pub object_found : IsObjectFound facts id object
  pub fields : FieldsValue
  pub are_fields : AreFields ids facts id fields
  pub is : IsFoundText facts fields class object text
