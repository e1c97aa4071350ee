-- The name of a thread, this project's own: the text of the field `name` of java.lang.Thread.
use Rattle.std.specs.Prelude.{◌≡◌, ◌==◌, ℕ, List, [], ◌∷◌, ◌++◌, Option, Some, None, codes, if◌then◌else◌}
use Rattle.std.specs.List.{AllByRecursion}
use Rattle.hprof_values.specs.declared.ids.IdSize.{IdSize}
use Rattle.hprof_items.specs.FactValue.{FactValue}
use Rattle.hprof_heap.specs.Names.{HasName}
use Rattle.hprof_layouts.specs.declared.field_value.FieldValue.{FieldValue}
use Rattle.hprof_layouts.specs.Fields.{AreFields, FieldsValue, Values}
use Rattle.hprof_naming.specs.Called.{IsCalled}
use Rattle.hprof_naming.specs.declared.text.Units.{Units}
use Rattle.hprof_naming.specs.Texts.{IsText, TextValue, target_of_field}
use Rattle.hprof_naming.specs.Texts as texts
use Rattle.hprof_naming.specs.Units.{units_of}

-- the field holds the name of a thread: it is called `name`, and the layout takes it from java/lang/Thread
abbrev pub HoldsName : List FactValue → FieldValue → Type 0
HoldsName facts field = HasName facts field.name (codes "name") × IsCalled facts field.class (codes "java/lang/Thread")

-- the first field that does; none does
abbrev pub IsFirstHolding : List FactValue → List FieldValue → Option FieldValue → Type 0
IsFirstHolding facts fields (Some field) = (before : List FieldValue) × (after : List FieldValue) × (fields ≡ before ++ field ∷ after)
    × HoldsName facts field × AllByRecursion (λ other. ¬ (HoldsName facts other)) before
IsFirstHolding facts fields None = AllByRecursion (λ other. ¬ (HoldsName facts other)) fields

-- the values of an instance; anything else has none
abbrev pub values_of : FieldsValue → List FieldValue
values_of (Values values) = values
values_of other = []

-- an object with these fields has its name in that object, or in none if that is 0: the first field that holds a name refers to it
abbrev pub IsNameObject : List FactValue → FieldsValue → ℕ → Type 0
IsNameObject facts fields name =
    (field : Option FieldValue) × IsFirstHolding facts (values_of fields) field × (name ≡ target_of_field field)

-- the units of a text, if it is one
abbrev pub units_in : TextValue → Option (List ℕ)
units_in (texts.Units units) = Some units
units_in texts.NoText = None
units_in texts.Nothing = None

-- the text of an identifier is this name; 0 has none
pub record IsNameOf (ids : IdSize) (facts : List FactValue) (id : ℕ) (name : Option (List ℕ)) : Type 0 where
  pub text : TextValue
  pub is_text : IsText ids facts id text
  pub is : name ≡ (if id == 0 then None else units_in text)

-- the name of the thread with this object: the text that the first such field refers to, if there is one
pub record IsThreadName (ids : IdSize) (facts : List FactValue) (object : ℕ) (name : Option (List ℕ)) : Type 0 where
  pub fields : FieldsValue
  pub are_fields : AreFields ids facts object fields
  pub field : Option FieldValue
  pub is_field : IsFirstHolding facts (values_of fields) field
  pub is : IsNameOf ids facts (target_of_field field) name

-- units as they lie in a heap
abbrev pub units_value : Units → List ℕ
units_value units = units_of units.coding units.bytes.now
