-- An identifier has one text.
use Rattle.std.specs.Prelude.{if◌then◌else◌, ◌==◌, codes}
use Rattle.std.proofs.Common.{◌≡◌, ℕ, false, List, Option, Some, None, refl, sym, ap, ◌∙◌, subst}
use Rattle.hprof_values.specs.declared.ids.IdSize.{IdSize}
use Rattle.hprof_items.specs.FactValue.{FactValue, Instance}
use Rattle.hprof_rows.specs.Conflict.{IsConsistent}
use Rattle.hprof_heap.specs.Classes.{ClassValue}
use Rattle.hprof_heap.specs.Found.{IsObjectFound}
use Rattle.hprof_layouts.specs.declared.field_value.FieldValue.{FieldValue}
use Rattle.hprof_layouts.specs.Fields.{FieldsValue, Values, Missing, Cyclic, WidthDiffers, NotAnInstance, NoObject}
use Rattle.hprof_layouts.proofs.FieldAnswers.{fields_once, fields_exist}
use Rattle.hprof_naming.specs.Texts.{TextValue, NoText, Nothing, IsFoundText, IsInstanceText, IsStringText, IsText, array_text}
use Rattle.hprof_naming.specs.Texts.{is_wide_coder, referred_text, target_of_field}
use Rattle.hprof_naming.proofs.FirstNamed.{first_exists, first_once}
use Rattle.hprof_naming.proofs.Lookups.{class_exists, class_once, object_exists, object_once}

-- the text of a string by its two fields and the array
abbrev text_by : Option FieldValue → Option FieldValue → Option FactValue → TextValue
text_by value coder array = if target_of_field value == 0 then NoText else referred_text (is_wide_coder coder) array

-- ---- there is a text

string_exists : (facts : List FactValue) (values : List FieldValue) → (text : TextValue) × IsStringText facts values text
string_exists facts values =
    let value = first_exists facts (codes "value") values in
    let coder = first_exists facts (codes "coder") values in
    let array = object_exists facts (target_of_field value.0) in (
      text_by value.0 coder.0 array.0,
      record {
        value = value.0;
        is_value = value.1;
        coder = coder.0;
        is_coder = coder.1;
        array = array.0;
        is_array = array.1;
        is = refl;
      },
    )

instance_exists : (facts : List FactValue) (fields : FieldsValue) → (text : TextValue) × IsInstanceText facts fields text
instance_exists facts (Values values) = string_exists facts values
instance_exists facts (Missing class) = (NoText, refl)
instance_exists facts Cyclic = (NoText, refl)
instance_exists facts (WidthDiffers width) = (NoText, refl)
instance_exists facts NotAnInstance = (NoText, refl)
instance_exists facts NoObject = (NoText, refl)

found_exists : (facts : List FactValue) (fields : FieldsValue) (class : Option ClassValue) (object : Option FactValue)
    → (text : TextValue) × IsFoundText facts fields class object text
found_exists facts fields None None = (Nothing, refl)
found_exists facts fields (Some dump) None = (NoText, refl)
found_exists facts fields None (Some (Instance id trace of_class bytes)) = instance_exists facts fields
found_exists facts fields (Some dump) (Some (Instance id trace of_class bytes)) = instance_exists facts fields
found_exists facts fields None (Some fact) = (array_text false fact, refl)
found_exists facts fields (Some dump) (Some fact) = (array_text false fact, refl)

pub text_exists : (ids : IdSize) (facts : List FactValue) (id : ℕ) → (text : TextValue) × IsText ids facts id text
text_exists ids facts id =
    let class = class_exists facts id in
    let object = object_exists facts id in
    let fields = fields_exist ids facts id in
    let text = found_exists facts fields.0 class.0 object.0 in (
      text.0,
      record {
        class = class.0;
        class_found = class.1;
        object = object.0;
        object_found = object.1;
        fields = fields.0;
        are_fields = fields.1;
        is = text.1;
      },
    )

-- ---- and one at most, where facts agree

module _ (facts : List FactValue) (agree : IsConsistent facts) where
  string_once : (values : List FieldValue) (one other : TextValue) → IsStringText facts values one → IsStringText facts values other
      → one ≡ other
  string_once values one other is too =
      let value = first_once facts (codes "value") values is.value too.value is.is_value too.is_value in
      let coder = first_once facts (codes "coder") values is.coder too.coder is.is_coder too.is_coder in
      let array = object_once facts agree (target_of_field is.value) is.array too.array is.is_array
      (subst (λ (v : Option FieldValue). IsObjectFound facts (target_of_field v) too.array) (sym value) too.is_array) in
      is.is ∙ ap (λ (v : Option FieldValue). text_by v is.coder is.array) value
      ∙ ap (λ (c : Option FieldValue). text_by too.value c is.array) coder
      ∙ ap (λ (a : Option FactValue). text_by too.value too.coder a) array ∙ sym too.is

  instance_once : (fields : FieldsValue) (one other : TextValue) → IsInstanceText facts fields one → IsInstanceText facts fields other
      → one ≡ other
  instance_once (Values values) one other is too = string_once values one other is too
  instance_once (Missing class) one other is too = is ∙ sym too
  instance_once Cyclic one other is too = is ∙ sym too
  instance_once (WidthDiffers width) one other is too = is ∙ sym too
  instance_once NotAnInstance one other is too = is ∙ sym too
  instance_once NoObject one other is too = is ∙ sym too

  found_once : (fields : FieldsValue) (class : Option ClassValue) (object : Option FactValue) (one other : TextValue)
      → IsFoundText facts fields class object one → IsFoundText facts fields class object other → one ≡ other
  found_once fields None None one other is too = is ∙ sym too
  found_once fields (Some dump) None one other is too = is ∙ sym too
  found_once fields None (Some (Instance id trace of_class bytes)) one other is too = instance_once fields one other is too
  found_once fields (Some dump) (Some (Instance id trace of_class bytes)) one other is too = instance_once fields one other is too
  found_once fields None (Some fact) one other is too = is ∙ sym too
  found_once fields (Some dump) (Some fact) one other is too = is ∙ sym too

  pub text_once : (ids : IdSize) (id : ℕ) (one other : TextValue) → IsText ids facts id one → IsText ids facts id other → one ≡ other
  text_once ids id one other is too =
      let class = class_once facts agree id is.class too.class is.class_found too.class_found in
      let object = object_once facts agree id is.object too.object is.object_found too.object_found in
      let fields = fields_once ids facts id is.fields too.fields agree is.are_fields too.are_fields in
      found_once is.fields is.class is.object one other is.is
      (subst (λ (f : FieldsValue). IsFoundText facts f is.class is.object other) (sym fields)
      (subst (λ (c : Option ClassValue). IsFoundText facts too.fields c is.object other) (sym class)
      (subst (λ (o : Option FactValue). IsFoundText facts too.fields too.class o other) (sym object) too.is)))
