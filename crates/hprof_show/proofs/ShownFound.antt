-- The identifiers that are shown, of what was found and of what is found in the whole.
use Rattle.std.specs.Prelude.{Contains, IsTrue}
use Rattle.std.proofs.Common.{ℕ, List, Option, subst}
use Rattle.std.specs.Option.{option_map}
use Rattle.hprof_values.specs.declared.ids.IdSize.{IdSize}
use Rattle.hprof_items.specs.FactValue.{FactValue}
use Rattle.hprof_rows.specs.Conflict.{IsConsistent}
use Rattle.hprof_heap.specs.declared.class_dump.ClassDump.{ClassDump}
use Rattle.hprof_heap.specs.declared.object_dump.ObjectDump.{ObjectDump}
use Rattle.hprof_heap.specs.ClassDump.{AnswersClass, class_value}
use Rattle.hprof_heap.specs.Classes.{ClassValue}
use Rattle.hprof_heap.specs.ObjectDump.{AnswersObject, fact_of_object}
use Rattle.hprof_histogram.specs.Chosen.{is_among}
use Rattle.hprof_layouts.specs.Fields.{AreFields, FieldsValue}
use Rattle.hprof_naming.proofs.Lookups.{class_is_found, class_once, object_is_found, object_once}
use Rattle.hprof_small.specs.Small.{IsSmall}
use Rattle.hprof_words.specs.Words.{HasWordsOf}
use Rattle.hprof_words.proofs.Among.{among_of_contains}
use Rattle.hprof_words.proofs.NextInAll.{class_in_small, fields_in_small, object_in_small}
use Rattle.hprof_show.specs.Shown.{shown_ids}
use Rattle.hprof_show.specs.ShownObjects.{HasShown, HasShownIds}

pub shown_found : (ids : IdSize) (facts : List FactValue) (id : ℕ) → IsConsistent facts → (class : Option ClassDump)
    (object : Option ObjectDump) → AnswersClass ids facts id class → AnswersObject ids facts id object → (list : List ℕ)
    → ((fields : FieldsValue) → AreFields ids facts id fields → (shown : ℕ)
    → Contains (shown_ids id fields (option_map class_value class) (option_map fact_of_object object)) shown → Contains list shown)
    → HasShownIds ids facts id list
shown_found ids facts id agree class object is_class is_object list has = λ fields dump fact are dump_is fact_is shown here.
    let class_is = class_once facts agree id dump (option_map class_value class) dump_is (class_is_found ids facts id class is_class) in
    let object_is = object_once facts agree id fact (option_map fact_of_object object) fact_is
    (object_is_found ids facts id object is_object) in
    has fields are shown
    (subst (λ (o : Option FactValue). Contains (shown_ids id fields (option_map class_value class) o) shown) object_is
    (subst (λ (c : Option ClassValue). Contains (shown_ids id fields c fact) shown) class_is here))

-- those of a small heap that has the object are those of the whole
pub shown_in_all : (ids : IdSize) (wanted : List ℕ) (all small : List FactValue) → IsSmall ids wanted all small → IsConsistent all
    → (id : ℕ) → IsTrue (is_among wanted id) → (shown : List ℕ) → HasShownIds ids small id shown → HasShownIds ids all id shown
shown_in_all ids wanted all small is agree id among shown has = λ fields class object are class_is object_is.
    has fields class object (fields_in_small ids wanted all small is agree id among fields are)
    (class_in_small ids wanted all small is id class class_is) (object_in_small ids wanted all small is id among object object_is)

-- what has the words for each of them
pub has_shown_of : (ids : IdSize) (facts : List FactValue) (id : ℕ) (some last : List ℕ) → HasShownIds ids facts id some
    → HasWordsOf ids facts some last → HasShown ids facts id last
has_shown_of ids facts id some last has words = λ fields class object are class_is object_is shown here.
    words shown (among_of_contains some shown (has fields class object are class_is object_is shown here))
