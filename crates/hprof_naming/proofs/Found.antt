-- The text of what was found.
use Rattle.std.specs.Prelude.{IfOk, if◌then◌else◌, ◌==◌, codes}
use Rattle.std.proofs.Common.{◌≡◌, ◌≢◌, ℕ, Bool, true, false, List, Option, Some, None, Result, Ok, Err, Bor, refl, sym, subst}
use Rattle.std.proofs.lemmas.Bool.{eqb-true, false_from_ne_true}
use Rattle.std.specs.Option.{option_map}
use Rattle.hprof_values.specs.declared.ids.IdSize.{IdSize}
use Rattle.hprof_items.specs.FactValue.{FactValue, Instance}
use Rattle.hprof_heap.specs.declared.class_dump.ClassDump.{ClassDump}
use Rattle.hprof_heap.specs.declared.object_dump.ObjectDump.{ObjectDump}
use Rattle.hprof_heap.specs.declared.object_dump.ObjectDump.TheVariants as dumps
use Rattle.hprof_heap.specs.ClassDump.{AnswersClass, class_value}
use Rattle.hprof_heap.specs.Classes.{ClassValue}
use Rattle.hprof_heap.specs.ObjectDump.{AnswersObject, fact_of_object}
use Rattle.hprof_layouts.specs.declared.field_value.FieldValue.{FieldValue}
use Rattle.hprof_layouts.specs.Fields.{FieldsValue, NoObject, AreFields}
use Rattle.hprof_layouts.proofs.FieldAnswers.{fields_exist}
use Rattle.hprof_naming.specs.Texts.{TextValue, NoText, IsFirstNamed, IsFoundText, IsInstanceText, IsStringText, IsText, array_text}
use Rattle.hprof_naming.specs.declared.text.Text.{Text}
use Rattle.hprof_naming.specs.Texts.{is_wide_coder, referred_text, target_of_field, text_value}
use Rattle.hprof_naming.proofs.Lookups.{class_exists, class_is_found, object_is_found}

-- ---- a string

-- its text, where its two fields and the array were found
pub string_text_is : (ids : IdSize) (facts : List FactValue) (values : List FieldValue) (value coder : Option FieldValue) (target : ℕ)
    (array : Option ObjectDump) (text : TextValue) → IsFirstNamed facts (codes "value") values value
    → IsFirstNamed facts (codes "coder") values coder → target ≡ target_of_field value → AnswersObject ids facts target array
    → text ≡ (if target == 0 then NoText else referred_text (is_wide_coder coder) (option_map fact_of_object array))
    → IsStringText facts values text
string_text_is ids facts values value coder target array text is_value is_coder same found is =
    let found_there = subst (λ (n : ℕ). AnswersObject ids facts n array) same found in
    record {
      value = value;
      is_value = is_value;
      coder = coder;
      is_coder = is_coder;
      array = option_map fact_of_object array;
      is_array = object_is_found ids facts (target_of_field value) array found_there;
      is = subst (λ (n : ℕ). text ≡ (if n == 0 then NoText else referred_text (is_wide_coder coder) (option_map fact_of_object array)))
          same is;
    }

-- the text that the array has, if the field is not 0
pub of_array_there : (target : ℕ) (coder : Option FieldValue) (array : Option ObjectDump) (object : ObjectDump) (is_wide : Bool)
    (text : TextValue) → target ≢ 0 → array ≡ Some object → is_wide ≡ is_wide_coder coder
    → text ≡ array_text is_wide (fact_of_object object)
    → text ≡ (if target == 0 then NoText else referred_text (is_wide_coder coder) (option_map fact_of_object array))
of_array_there target coder array object is_wide text apart there wide is =
    let not_zero : (target == 0) ≡ false = false_from_ne_true (target == 0) (λ e. apart (eqb-true target 0 e)) in
    rw (not_zero, there, ← wide) is

-- no text, if it is 0
pub of_zero : (target : ℕ) (coder : Option FieldValue) (array : Option ObjectDump) → target ≡ 0
    → NoText ≡ (if target == 0 then NoText else referred_text (is_wide_coder coder) (option_map fact_of_object array))
of_zero target coder array zero = rw zero refl

-- and no text, if there is no such object
pub of_no_array : (target : ℕ) (coder : Option FieldValue) (array : Option ObjectDump) → array ≡ None
    → NoText ≡ (if target == 0 then NoText else referred_text (is_wide_coder coder) (option_map fact_of_object array))
of_no_array target coder array none = rw none (elim (target == 0) as (λ b. NoText ≡ (if b then NoText else NoText))
    [ true ↦ refl | false ↦ refl ])

-- ---- an identifier

-- an instance has the text of its fields, whether or not a class is found
instance_is : (facts : List FactValue) (fields : FieldsValue) (own trace class : ℕ) (bytes : List ℕ) (text : TextValue)
    → IsInstanceText facts fields text → (found : Option ClassValue)
    → IsFoundText facts fields found (Some (Instance own trace class bytes)) text
instance_is facts fields own trace class bytes text is None = is
instance_is facts fields own trace class bytes text is (Some dump) = is

-- and any other object that of an array
array_is : (facts : List FactValue) (fields : FieldsValue) (object : ObjectDump)
    → ((own trace class : ℕ) (bytes : Bor (List ℕ)) → object ≡ dumps.Instance own trace class bytes → ⊥) → (found : Option ClassValue)
    → IsFoundText facts fields found (Some (fact_of_object object)) (array_text false (fact_of_object object))
array_is facts fields (dumps.Instance own trace class bytes) other found = absurd (other own trace class bytes refl)
array_is facts fields (dumps.ObjArray own trace class elements) other None = refl
array_is facts fields (dumps.ObjArray own trace class elements) other (Some dump) = refl
array_is facts fields (dumps.PrimArray own trace elem bytes) other None = refl
array_is facts fields (dumps.PrimArray own trace elem bytes) other (Some dump) = refl

module _ (ids : IdSize) (facts : List FactValue) (id : ℕ) (row : Option ObjectDump) (found : AnswersObject ids facts id row) where
  -- without an object dump
  pub text_without_object : (class : Option ClassDump) (dump : ClassDump) → AnswersClass ids facts id class → class ≡ Some dump → row ≡ None
      → IsText ids facts id NoText
  text_without_object class dump class_found there none =
      let no_object = (subst (λ (o : Option ObjectDump). AnswersObject ids facts id o) none found).none in
      record {
        class = Some (class_value dump);
        class_found = class_is_found ids facts id (Some dump) (subst (λ (c : Option ClassDump). AnswersClass ids facts id c) there
            class_found);
        object = None;
        object_found = no_object;
        fields = NoObject;
        are_fields = no_object;
        is = refl;
      }

  module _ (object : ObjectDump) (there : row ≡ Some object) where
    -- with one
    text_with_object : (fields : FieldsValue) (text : TextValue) → AreFields ids facts id fields
        → ((class : Option ClassValue) → IsFoundText facts fields class (Some (fact_of_object object)) text) → IsText ids facts id text
    text_with_object fields text are is =
        let class = class_exists facts id in
        record {
          class = class.0;
          class_found = class.1;
          object = Some (fact_of_object object);
          object_found = object_is_found ids facts id (Some object)
              (subst (λ (o : Option ObjectDump). AnswersObject ids facts id o) there found);
          fields = fields;
          are_fields = are;
          is = is class.0;
        }

    -- of an instance
    pub text_of_instance : {E : Type 0} (own trace class : ℕ) (bytes : Bor (List ℕ)) (r : Result Text E)
        → object ≡ dumps.Instance own trace class bytes
        → IfOk r (λ text. (fields : FieldsValue) × AreFields ids facts id fields × IsInstanceText facts fields (text_value text))
        → IfOk r (λ text. IsText ids facts id (text_value text))
    text_of_instance own trace class bytes (Ok text) same is =
        text_with_object is.0 (text_value text) is.1
        (subst (λ (o : ObjectDump). (found : Option ClassValue) → IsFoundText facts is.0 found (Some (fact_of_object o)) (text_value text))
        (sym same) (instance_is facts is.0 own trace class bytes.now (text_value text) is.2))
    text_of_instance own trace class bytes (Err e) same is = tt

    -- of an array
    pub text_of_array : (text : TextValue) → ((own trace class : ℕ) (bytes : Bor (List ℕ))
        → object ≡ dumps.Instance own trace class bytes → ⊥)
        → text ≡ array_text false (fact_of_object object) → IsText ids facts id text
    text_of_array text other is =
        let fields = fields_exist ids facts id in
        rw is (text_with_object fields.0 (array_text false (fact_of_object object)) fields.1 (array_is facts fields.0 object other))
