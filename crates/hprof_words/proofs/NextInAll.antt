-- What the words for an object of a small heap are read from is what they are read from in the whole.
use Rattle.std.specs.Prelude.{IsTrue, codes}
use Rattle.std.proofs.Common.{◌≡◌, ℕ, List, [], ◌∷◌, Option, Some, None, inl, inr, subst, sym}
use Rattle.std.specs.List.{AllByRecursion}
use Rattle.hprof_values.specs.declared.ids.IdSize.{IdSize}
use Rattle.hprof_items.specs.FactValue.{FactValue, Name}
use Rattle.hprof_rows.specs.Conflict.{IsConsistent}
use Rattle.hprof_heap.specs.Classes.{ClassValue, fact_of_class}
use Rattle.hprof_heap.specs.Found.{IsClassFound, IsObjectFound}
use Rattle.hprof_heap.specs.Names.{HasName}
use Rattle.hprof_histogram.specs.Chosen.{is_among}
use Rattle.hprof_layouts.specs.declared.field_value.FieldValue.{FieldValue}
use Rattle.hprof_layouts.specs.Fields.{AreFields, FieldsValue, Values, Missing, Cyclic, WidthDiffers, NotAnInstance, NoObject}
use Rattle.hprof_layouts.proofs.FieldAnswers.{fields_exist, fields_once}
use Rattle.hprof_naming.specs.Texts.{IsFirstNamed}
use Rattle.hprof_small.specs.Small.{IsSmall}
use Rattle.hprof_small.proofs.SmallHas.{dump_kept, object_kept, small_has}
use Rattle.hprof_reports.specs.TextObjects.{IsValueArray}
use Rattle.hprof_reports.proofs.SmallFields.{fields_in_all}
use Rattle.hprof_reports.proofs.SmallTexts.{name_kept}
use Rattle.hprof_words.specs.Words.{HasNext, HasNextOf, HasWords, HasWordsOf}
use Rattle.hprof_words.proofs.SmallNames.{name_object_in_small}

module _ (ids : IdSize) (wanted : List ℕ) (all small : List FactValue) (is : IsSmall ids wanted all small) where
  -- ---- what is found

  pub class_in_small : (id : ℕ) (class : Option ClassValue) → IsClassFound all id class → IsClassFound small id class
  class_in_small id (Some dump) found = (dump_kept ids wanted all small is dump found.0, found.1)
  class_in_small id None none = λ dump has. none dump (small_has ids wanted all small is (fact_of_class dump) has)

  pub object_in_small : (id : ℕ) → IsTrue (is_among wanted id) → (object : Option FactValue) → IsObjectFound all id object
      → IsObjectFound small id object
  object_in_small id among (Some fact) found = (object_kept ids wanted all small is id among fact found.1 found.0, found.1)
  object_in_small id among None none = λ fact has. none fact (small_has ids wanted all small is fact has)

  pub fields_in_small : IsConsistent all → (id : ℕ) → IsTrue (is_among wanted id) → (fields : FieldsValue) → AreFields ids all id fields
      → AreFields ids small id fields
  fields_in_small agree id among fields are =
      let shown = fields_exist ids small id in
      let same : fields ≡ shown.0 = fields_once ids all id fields shown.0 agree are
      (fields_in_all ids wanted all small is id among shown.0 shown.1) in
      subst (AreFields ids small id) (sym same) shown.1

  -- ---- the array of a text

  none_named : (word : List ℕ) (values : List FieldValue) → AllByRecursion (λ other. ¬ (HasName all other.name word)) values
      → AllByRecursion (λ other. ¬ (HasName small other.name word)) values
  none_named word [] none = tt
  none_named word (value ∷ values) none =
      (λ has. none.0 (small_has ids wanted all small is (Name value.name word) has), none_named word values none.1)

  first_in_small : (word : List ℕ) (values : List FieldValue) (first : Option FieldValue) → IsFirstNamed all word values first
      → IsFirstNamed small word values first
  first_in_small word values (Some first) named =
      (named.0, named.1, named.2, name_kept ids wanted all small is first.name word named.3, none_named word named.0 named.4)
  first_in_small word values None none = none_named word values none

  value_array_in_small : (fields : FieldsValue) (array : ℕ) → IsValueArray all fields array → IsValueArray small fields array
  value_array_in_small (Values values) array of = (of.0, first_in_small (codes "value") values of.0 of.1, of.2)
  value_array_in_small (Missing class) array of = of
  value_array_in_small Cyclic array of = of
  value_array_in_small (WidthDiffers width) array of = of
  value_array_in_small NotAnInstance array of = of
  value_array_in_small NoObject array of = of

  -- ---- lists that have it all

  module _ (agree : IsConsistent all) where
    next_in_all : (needed : List ℕ) (id : ℕ) → IsTrue (is_among wanted id) → HasNext ids small needed id → HasNext ids all needed id
    next_in_all needed id among has = record {
      object = has.object;
      array = λ fields array are of.
          has.array fields array (fields_in_small agree id among fields are) (value_array_in_small fields array of);
      name = λ fields name are of.
          has.name fields name (fields_in_small agree id among fields are) (name_object_in_small ids wanted all small is fields name of);
    }

    pub next_of_in_all : (needed : List ℕ) → HasNextOf ids small wanted needed → HasNextOf ids all wanted needed
    next_of_in_all needed has = λ id among. next_in_all needed id among (has id among)

-- what is needed next of what is needed next is all that the words are read from
pub words_of_two : (ids : IdSize) (facts : List FactValue) (some next last : List ℕ) → HasNextOf ids facts some next
    → HasNextOf ids facts next last → HasWordsOf ids facts some last
words_of_two ids facts some next last one two = λ id among.
    let first = one id among in
    record {
      next = two id first.object;
      name_array = λ fields name are of. elim (first.name fields name are of) [
        | inl zero ↦ inl zero
        | inr there ↦ inr (two name there).array
      ];
    }
