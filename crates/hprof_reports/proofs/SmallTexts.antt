-- The text of an object in a small heap is its text in the whole.
use Rattle.std.specs.Prelude.{if◌then◌else◌, ◌==◌, ◌⊎◌, IsTrue, codes}
use Rattle.std.proofs.Common.{◌≡◌, ℕ, List, [], ◌∷◌, Option, Some, None, inl, inr, refl, sym, ap, ◌∙◌}
use Rattle.std.specs.List.{AllByRecursion}
use Rattle.hprof_values.specs.declared.ids.IdSize.{IdSize}
use Rattle.hprof_items.specs.FactValue.{FactValue, Instance, Name}
use Rattle.hprof_rows.specs.declared.table.Table.TheVariants as tables
use Rattle.hprof_heap.specs.Classes.{ClassValue}
use Rattle.hprof_heap.specs.Names.{HasName}
use Rattle.hprof_histogram.specs.Chosen.{is_among}
use Rattle.hprof_layouts.specs.declared.field_value.FieldValue.{FieldValue}
use Rattle.hprof_layouts.specs.Fields.{FieldsValue, Values, Missing, Cyclic, WidthDiffers, NotAnInstance, NoObject}
use Rattle.hprof_naming.specs.Texts.{TextValue, NoText, IsFirstNamed, IsFoundText, IsInstanceText, IsStringText, IsText, is_wide_coder}
use Rattle.hprof_naming.specs.Texts.{referred_text, target_of_field}
use Rattle.hprof_naming.proofs.Lookups.{object_exists}
use Rattle.hprof_passes.proofs.Tables.{has_same}
use Rattle.hprof_small.specs.Small.{IsSmall}
use Rattle.hprof_reports.specs.TextObjects.{HasValueArray, IsValueArray}
use Rattle.hprof_reports.proofs.SmallFields.{fields_in_all}
use Rattle.hprof_small.proofs.SmallHas.{class_in_all, object_in_all, small_has}

-- a field that refers to nothing has no text, whatever the array is
nothing_referred : (target : ℕ) (text other : TextValue) → target ≡ 0
    → (if target == 0 then NoText else text) ≡ (if target == 0 then NoText else other)
nothing_referred target text other zero =
    ap (λ (n : ℕ). if n == 0 then NoText else text) zero ∙ sym (ap (λ (n : ℕ). if n == 0 then NoText else other) zero)

module _ (ids : IdSize) (wanted : List ℕ) (all small : List FactValue) (is : IsSmall ids wanted all small) where
  -- ---- names

  pub name_kept : (name : ℕ) (word : List ℕ) → HasName all name word → HasName small name word
  name_kept name word has = (has_same ids all small is.whole tables.Names (λ e. cc) (Name name word) refl).1 has

  none_named : (word : List ℕ) (values : List FieldValue) → AllByRecursion (λ other. ¬ (HasName small other.name word)) values
      → AllByRecursion (λ other. ¬ (HasName all other.name word)) values
  none_named word [] none = tt
  none_named word (value ∷ values) none = (λ has. none.0 (name_kept value.name word has), none_named word values none.1)

  first_in_all : (word : List ℕ) (values : List FieldValue) (first : Option FieldValue) → IsFirstNamed small word values first
      → IsFirstNamed all word values first
  first_in_all word values (Some first) named =
      (named.0, named.1, named.2, small_has ids wanted all small is (Name first.name word) named.3, none_named word named.0 named.4)
  first_in_all word values None none = none_named word values none

  -- the array to which the first field `value` refers
  pub value_array_in_all : (fields : FieldsValue) (array : ℕ) → IsValueArray small fields array → IsValueArray all fields array
  value_array_in_all (Values values) array of = (of.0, first_in_all (codes "value") values of.0 of.1, of.2)
  value_array_in_all (Missing class) array of = of
  value_array_in_all Cyclic array of = of
  value_array_in_all (WidthDiffers width) array of = of
  value_array_in_all NotAnInstance array of = of
  value_array_in_all NoObject array of = of

  -- ---- texts

  -- where the array is wanted, or there is none
  abbrev CanRead : FieldsValue → Type 0
  CanRead fields = (array : ℕ) → IsValueArray all fields array → (array ≡ 0) ⊎ IsTrue (is_among wanted array)

  string_in_all : (values : List FieldValue) (text : TextValue) → CanRead (Values values) → IsStringText small values text
      → IsStringText all values text
  string_in_all values text can of =
      let target = target_of_field of.value in
      let first = first_in_all (codes "value") values of.value of.is_value in
      let coder = first_in_all (codes "coder") values of.coder of.is_coder in
      elim (can target (of.value, first, refl)) [
        | inr among ↦ record {
          value = of.value;
          is_value = first;
          coder = of.coder;
          is_coder = coder;
          array = of.array;
          is_array = object_in_all ids wanted all small is target among of.array of.is_array;
          is = of.is;
        }
        | inl none ↦
            let array = object_exists all target in
            record {
              value = of.value;
              is_value = first;
              coder = of.coder;
              is_coder = coder;
              array = array.0;
              is_array = array.1;
              is =
                  of.is ∙ nothing_referred target (referred_text (is_wide_coder of.coder) of.array)
                  (referred_text (is_wide_coder of.coder) array.0) none;
            }
      ]

  instance_in_all : (fields : FieldsValue) (text : TextValue) → CanRead fields → IsInstanceText small fields text
      → IsInstanceText all fields text
  instance_in_all (Values values) text can of = string_in_all values text can of
  instance_in_all (Missing class) text can of = of
  instance_in_all Cyclic text can of = of
  instance_in_all (WidthDiffers width) text can of = of
  instance_in_all NotAnInstance text can of = of
  instance_in_all NoObject text can of = of

  found_in_all : (fields : FieldsValue) (class : Option ClassValue) (object : Option FactValue) (text : TextValue) → CanRead fields
      → IsFoundText small fields class object text → IsFoundText all fields class object text
  found_in_all fields None None text can of = of
  found_in_all fields (Some dump) None text can of = of
  found_in_all fields None (Some (Instance id trace of_class bytes)) text can of = instance_in_all fields text can of
  found_in_all fields (Some dump) (Some (Instance id trace of_class bytes)) text can of = instance_in_all fields text can of
  found_in_all fields None (Some fact) text can of = of
  found_in_all fields (Some dump) (Some fact) text can of = of

  pub text_in_all : (id : ℕ) (text : TextValue) → IsTrue (is_among wanted id) → HasValueArray ids all id wanted
      → IsText ids small id text → IsText ids all id text
  text_in_all id text among has of =
      let fields = fields_in_all ids wanted all small is id among of.fields of.are_fields in
      record {
        class = of.class;
        class_found = class_in_all ids wanted all small is id of.class of.class_found;
        object = of.object;
        object_found = object_in_all ids wanted all small is id among of.object of.object_found;
        fields = of.fields;
        are_fields = fields;
        is = found_in_all of.fields of.class of.object text (λ array value. has of.fields array fields value) of.is;
      }
