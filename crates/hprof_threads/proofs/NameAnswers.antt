-- A thread has one name.
use Rattle.std.specs.Prelude.{if◌then◌else◌, ◌==◌}
use Rattle.std.proofs.Common.{◌≡◌, ℕ, Bool, true, false, List, [], Option, None, Vec, Global, refl, sym, ap, ◌∙◌, subst}
use Rattle.hprof_values.specs.declared.ids.IdSize.{IdSize}
use Rattle.hprof_items.specs.FactValue.{FactValue}
use Rattle.hprof_rows.specs.Conflict.{IsConsistent}
use Rattle.hprof_layouts.specs.declared.field_value.FieldValue.{FieldValue}
use Rattle.hprof_layouts.specs.declared.field_value.Fields.{Fields}
use Rattle.hprof_layouts.specs.declared.field_value.Fields.TheVariants as given
use Rattle.hprof_layouts.specs.Fields.{FieldsValue, AreFields, fields_value}
use Rattle.hprof_layouts.proofs.FieldAnswers.{fields_once, fields_exist}
use Rattle.hprof_naming.specs.declared.text.Text.{Text}
use Rattle.hprof_naming.specs.declared.text.Text.TheVariants as handed
use Rattle.hprof_naming.specs.declared.text.Units.{Units}
use Rattle.hprof_naming.specs.Texts.{IsText, TextValue, target_of_field, text_value}
use Rattle.hprof_naming.proofs.OneText.{text_exists, text_once}
use Rattle.hprof_threads.specs.ThreadNames.{IsFirstHolding, IsNameObject, IsNameOf, IsThreadName, units_in, values_of}
use Rattle.hprof_threads.proofs.FirstHolding.{first_exists, first_once}

-- ---- the text of an identifier

abbrev no_name : Option (List ℕ)
no_name = None

-- 0 has none
pub name_of_zero : (ids : IdSize) (facts : List FactValue) (id : ℕ) → id ≡ 0 → IsNameOf ids facts id None
name_of_zero ids facts id zero =
    let text = text_exists ids facts id in
    record { text = text.0; is_text = text.1; is = rw zero refl }

-- a text that is none gives no name
no_units : (text : Text) → ((units : Units) → text ≡ handed.Units units → ⊥) → units_in (text_value text) ≡ None
no_units (handed.Units units) other = absurd (other units refl)
no_units handed.NoText other = refl
no_units handed.Nothing other = refl

pub name_of_no_text : (ids : IdSize) (facts : List FactValue) (id : ℕ) (text : Text) → IsText ids facts id (text_value text)
    → ((units : Units) → text ≡ handed.Units units → ⊥) → IsNameOf ids facts id None
name_of_no_text ids facts id text is_text other = record {
  text = text_value text;
  is_text = is_text;
  is = rw (no_units text other) (by_test (id == 0));
}
  where
    by_test : (b : Bool) → no_name ≡ (if b then no_name else no_name)
    by_test true = refl
    by_test false = refl

-- ---- the name of a thread

-- fields without values
pub no_values : (fields : Fields) → ((values : Vec FieldValue Global) → fields ≡ given.Values values → ⊥)
    → values_of (fields_value fields) ≡ []
no_values (given.Values values) other = absurd (other values refl)
no_values (given.Missing class) other = refl
no_values given.Cyclic other = refl
no_values (given.WidthDiffers width) other = refl
no_values given.NotAnInstance other = refl
no_values given.NoObject other = refl

-- no values hold no name
pub no_name_object : (facts : List FactValue) (fields : FieldsValue) → values_of fields ≡ [] → IsNameObject facts fields 0
no_name_object facts fields none = (None, subst (λ (l : List FieldValue). IsFirstHolding facts l None) (sym none) tt, refl)

-- the text of the object that holds the name is the name
pub name_of_object : (ids : IdSize) (facts : List FactValue) (object : ℕ) (fields : FieldsValue) → AreFields ids facts object fields
    → (holder : ℕ) → IsNameObject facts fields holder → (name : Option (List ℕ)) → IsNameOf ids facts holder name
    → IsThreadName ids facts object name
name_of_object ids facts object fields are_fields holder of name is = record {
  fields = fields;
  are_fields = are_fields;
  field = of.0;
  is_field = of.1;
  is = subst (λ (n : ℕ). IsNameOf ids facts n name) of.2 is;
}

-- ---- there is one

name_exists : (ids : IdSize) (facts : List FactValue) (id : ℕ) → (name : Option (List ℕ)) × IsNameOf ids facts id name
name_exists ids facts id =
    let text = text_exists ids facts id in
    (if id == 0 then None else units_in text.0, record { text = text.0; is_text = text.1; is = refl })

pub thread_name_exists : (ids : IdSize) (facts : List FactValue) (object : ℕ) → IsConsistent facts
    → (name : Option (List ℕ)) × IsThreadName ids facts object name
thread_name_exists ids facts object agree =
    let fields = fields_exist ids facts object in
    let field = first_exists facts agree (values_of fields.0) in
    let name = name_exists ids facts (target_of_field field.0) in (
      name.0,
      record { fields = fields.0; are_fields = fields.1; field = field.0; is_field = field.1; is = name.1 },
    )

-- ---- and one at most

module _ (facts : List FactValue) (agree : IsConsistent facts) (ids : IdSize) where
  name_once : (id : ℕ) (one other : Option (List ℕ)) → IsNameOf ids facts id one → IsNameOf ids facts id other → one ≡ other
  name_once id one other is too =
      let text = text_once facts agree ids id is.text too.text is.is_text too.is_text in
      is.is ∙ ap (λ (t : TextValue). if id == 0 then None else units_in t) text ∙ sym too.is

  pub thread_name_once : (object : ℕ) (one other : Option (List ℕ)) → IsThreadName ids facts object one
      → IsThreadName ids facts object other → one ≡ other
  thread_name_once object one other is too =
      let fields = fields_once ids facts object is.fields too.fields agree is.are_fields too.are_fields in
      let field = first_once facts (values_of too.fields) is.field too.field
      (subst (λ (f : FieldsValue). IsFirstHolding facts (values_of f) is.field) fields is.is_field) too.is_field in
      name_once (target_of_field too.field) one other
      (subst (λ (f : Option FieldValue). IsNameOf ids facts (target_of_field f) one) field is.is) too.is
