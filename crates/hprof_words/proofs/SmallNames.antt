-- The objects that hold the names of threads, in a small heap and in the whole.
use Rattle.std.specs.Prelude.{if◌then◌else◌, ◌==◌, ◌⊎◌, IsTrue, codes}
use Rattle.std.proofs.Common.{◌≡◌, ℕ, List, [], ◌∷◌, Option, Some, None, inl, inr, refl, sym, ap, ◌∙◌}
use Rattle.std.specs.List.{AllByRecursion}
use Rattle.hprof_values.specs.declared.ids.IdSize.{IdSize}
use Rattle.hprof_items.specs.FactValue.{FactValue, Load, Name}
use Rattle.hprof_rows.specs.declared.table.Table.TheVariants as tables
use Rattle.hprof_histogram.specs.Chosen.{is_among}
use Rattle.hprof_layouts.specs.declared.field_value.FieldValue.{FieldValue}
use Rattle.hprof_layouts.specs.Fields.{FieldsValue}
use Rattle.hprof_naming.specs.Called.{IsCalled}
use Rattle.hprof_naming.specs.Texts.{target_of_field}
use Rattle.hprof_naming.proofs.OneText.{text_exists}
use Rattle.hprof_passes.proofs.Tables.{has_same}
use Rattle.hprof_small.specs.Small.{IsSmall}
use Rattle.hprof_small.proofs.SmallHas.{small_has}
use Rattle.hprof_lines.proofs.WholeNames.{names_class_same}
use Rattle.hprof_threads.specs.ThreadNames.{HoldsName, IsFirstHolding, IsNameObject, IsNameOf, IsThreadName, units_in, values_of}
use Rattle.hprof_reports.specs.TextObjects.{HasValueArray}
use Rattle.hprof_reports.proofs.SmallFields.{fields_in_all}
use Rattle.hprof_reports.proofs.SmallTexts.{name_kept, text_in_all}
use Rattle.hprof_words.specs.Words.{HasWords}

module _ (ids : IdSize) (wanted : List ℕ) (all small : List FactValue) (is : IsSmall ids wanted all small) where
  -- ---- the field that holds a name

  called_in_all : (class : ℕ) (word : List ℕ) → IsCalled small class word → IsCalled all class word
  called_in_all class word called = record {
    name = called.name;
    names = names_class_same ids all small is.whole class (Some called.name) called.names;
    has = small_has ids wanted all small is (Name called.name word) called.has;
  }

  called_in_small : (class : ℕ) (word : List ℕ) → IsCalled all class word → IsCalled small class word
  called_in_small class word called = record {
    name = called.name;
    names = record {
      serial = called.names.serial;
      trace = called.names.trace;
      loaded = (has_same ids all small is.whole tables.Loads (λ e. cc)
          (Load called.names.serial class called.names.trace called.name) refl).1 called.names.loaded;
      least = λ other trace name has.
          called.names.least other trace name (small_has ids wanted all small is (Load other class trace name) has);
    };
    has = name_kept ids wanted all small is called.name word called.has;
  }

  holds_in_all : (field : FieldValue) → HoldsName small field → HoldsName all field
  holds_in_all field holds = (
    small_has ids wanted all small is (Name field.name (codes "name")) holds.0,
    called_in_all field.class (codes "java/lang/Thread") holds.1,
  )

  holds_in_small : (field : FieldValue) → HoldsName all field → HoldsName small field
  holds_in_small field holds = (
    name_kept ids wanted all small is field.name (codes "name") holds.0,
    called_in_small field.class (codes "java/lang/Thread") holds.1,
  )

  none_in_all : (fields : List FieldValue) → AllByRecursion (λ other. ¬ (HoldsName small other)) fields
      → AllByRecursion (λ other. ¬ (HoldsName all other)) fields
  none_in_all [] none = tt
  none_in_all (field ∷ fields) none = (λ holds. none.0 (holds_in_small field holds), none_in_all fields none.1)

  none_in_small : (fields : List FieldValue) → AllByRecursion (λ other. ¬ (HoldsName all other)) fields
      → AllByRecursion (λ other. ¬ (HoldsName small other)) fields
  none_in_small [] none = tt
  none_in_small (field ∷ fields) none = (λ holds. none.0 (holds_in_all field holds), none_in_small fields none.1)

  holding_in_all : (fields : List FieldValue) (first : Option FieldValue) → IsFirstHolding small fields first
      → IsFirstHolding all fields first
  holding_in_all fields (Some field) of = (of.0, of.1, of.2, holds_in_all field of.3, none_in_all of.0 of.4)
  holding_in_all fields None none = none_in_all fields none

  holding_in_small : (fields : List FieldValue) (first : Option FieldValue) → IsFirstHolding all fields first
      → IsFirstHolding small fields first
  holding_in_small fields (Some field) of = (of.0, of.1, of.2, holds_in_small field of.3, none_in_small of.0 of.4)
  holding_in_small fields None none = none_in_small fields none

  -- the object to which it refers
  pub name_object_in_small : (fields : FieldsValue) (name : ℕ) → IsNameObject all fields name → IsNameObject small fields name
  name_object_in_small fields name of = (of.0, holding_in_small (values_of fields) of.0 of.1, of.2)

  -- ---- the name

  nameless : (id : ℕ) (one other name : Option (List ℕ)) → id ≡ 0 → name ≡ (if id == 0 then None else one)
      → name ≡ (if id == 0 then None else other)
  nameless id one other name zero is =
      is ∙ ap (λ (n : ℕ). if n == 0 then None else one) zero ∙ sym (ap (λ (n : ℕ). if n == 0 then None else other) zero)

  name_of_in_all : (id : ℕ) (name : Option (List ℕ)) → (id ≡ 0) ⊎ (IsTrue (is_among wanted id) × HasValueArray ids all id wanted)
      → IsNameOf ids small id name → IsNameOf ids all id name
  name_of_in_all id name (inl zero) of =
      let text = text_exists ids all id in
      record { text = text.0; is_text = text.1; is = nameless id (units_in of.text) (units_in text.0) name zero of.is }
  name_of_in_all id name (inr has) of =
      record { text = of.text; is_text = text_in_all ids wanted all small is id of.text has.0 has.1 of.is_text; is = of.is }

  pub thread_name_in_all : (id : ℕ) (name : Option (List ℕ)) → HasWords ids all wanted id → IsThreadName ids small id name
      → IsThreadName ids all id name
  thread_name_in_all id name has of =
      let fields = fields_in_all ids wanted all small is id has.next.object of.fields of.are_fields in
      let field = holding_in_all (values_of of.fields) of.field of.is_field in
      let target = target_of_field of.field in
      let object : IsNameObject all of.fields target = (of.field, field, refl) in
      let there : (target ≡ 0) ⊎ (IsTrue (is_among wanted target) × HasValueArray ids all target wanted) =
      elim (has.next.name of.fields target fields object) [
        | inl zero ↦ inl zero
        | inr among ↦ elim (has.name_array of.fields target fields object) [ inl zero ↦ inl zero | inr array ↦ inr (among, array) ]
      ] in
      record {
        fields = of.fields;
        are_fields = fields;
        field = of.field;
        is_field = field;
        is = name_of_in_all target name there of.is;
      }
