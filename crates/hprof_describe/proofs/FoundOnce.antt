-- What a look-up gives is what was found, since facts that agree have one answer for each identifier.
use Rattle.std.proofs.Common.{◌≡◌, ℕ, List, Option, ap, ◌∙◌}
use Rattle.std.specs.Option.{option_map}
use Rattle.hprof_values.specs.declared.ids.IdSize.{IdSize}
use Rattle.hprof_items.specs.FactValue.{FactValue}
use Rattle.hprof_rows.specs.Conflict.{IsConsistent}
use Rattle.hprof_heap.specs.declared.class_dump.ClassDump.{ClassDump}
use Rattle.hprof_heap.specs.declared.object_dump.ObjectDump.{ObjectDump}
use Rattle.hprof_heap.specs.ClassDump.{AnswersClass, class_value}
use Rattle.hprof_heap.specs.Classes.{ClassValue}
use Rattle.hprof_heap.specs.ObjectDump.{AnswersObject, fact_of_object}
use Rattle.hprof_naming.specs.Texts.{IsText, TextValue}
use Rattle.hprof_naming.proofs.Lookups.{class_is_found, class_once, object_is_found, object_once}
use Rattle.hprof_naming.proofs.OneText.{text_once}
use Rattle.hprof_threads.specs.ThreadNames.{IsThreadName}
use Rattle.hprof_threads.proofs.NameAnswers.{thread_name_once}
use Rattle.hprof_describe.specs.Findings.{AreFindings, Findings}
use Rattle.hprof_describe.specs.Nodes.{kind_of, kind_text}
use Rattle.hprof_describe.specs.References.{reference_words}

module _ (ids : IdSize) (facts : List FactValue) (agree : IsConsistent facts) (found : Findings) (are : AreFindings ids facts found)
    (id : ℕ) where
  -- ---- the answers

  pub class_found : (row : Option ClassDump) → AnswersClass ids facts id row → option_map class_value row ≡ found.class id
  class_found row is =
      class_once facts agree id (option_map class_value row) (found.class id) (class_is_found ids facts id row is) (are.classes id)

  pub object_found : (row : Option ObjectDump) → AnswersObject ids facts id row → option_map fact_of_object row ≡ found.object id
  object_found row is =
      object_once facts agree id (option_map fact_of_object row) (found.object id) (object_is_found ids facts id row is) (are.objects id)

  pub text_found : (text : TextValue) → IsText ids facts id text → text ≡ found.text id
  text_found text is = text_once facts agree ids id text (found.text id) is (are.texts id)

  pub name_found : (name : Option (List ℕ)) → IsThreadName ids facts id name → name ≡ found.thread_name id
  name_found name is = thread_name_once facts agree ids id name (found.thread_name id) is (are.thread_names id)

  -- ---- the words for them

  pub kind_found : (class : Option ClassDump) (object : Option ObjectDump) → AnswersClass ids facts id class
      → AnswersObject ids facts id object
      → kind_of found.naming id (option_map class_value class) (option_map fact_of_object object) ≡ kind_text found id
  unfolding kind_text
  kind_found class object is_class is_object =
      ap (λ (dump : Option ClassValue). kind_of found.naming id dump (option_map fact_of_object object)) (class_found class is_class)
      ∙ ap (λ (fact : Option FactValue). kind_of found.naming id (found.class id) fact) (object_found object is_object)

  pub words_found : (class : Option ClassDump) (object : Option ObjectDump) → AnswersClass ids facts id class
      → AnswersObject ids facts id object
      → reference_words found id (option_map class_value class) (option_map fact_of_object object)
      ≡ reference_words found id (found.class id) (found.object id)
  words_found class object is_class is_object =
      ap (λ (dump : Option ClassValue). reference_words found id dump (option_map fact_of_object object)) (class_found class is_class)
      ∙ ap (λ (fact : Option FactValue). reference_words found id (found.class id) fact) (object_found object is_object)
