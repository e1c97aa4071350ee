-- Words for an identifier of which two findings say the same.
use Rattle.std.specs.Prelude.{◌==◌, bytes_eq, if◌then◌else◌}
use Rattle.std.proofs.Common.{◌≡◌, ℕ, List, ◌++◌, Option, Some, None, refl, ap, codes, ◌∙◌}
use Rattle.hprof_text.specs.Identifier.{id_digits}
use Rattle.hprof_items.specs.FactValue.{FactValue, Instance}
use Rattle.hprof_heap.specs.Classes.{ClassValue}
use Rattle.hprof_naming.specs.Texts.{TextValue}
use Rattle.hprof_threads.specs.ThreadNames.{units_in}
use Rattle.hprof_describe.specs.Findings.{Findings}
use Rattle.hprof_describe.specs.Nodes.{kind_of, kind_text, name_of_node, node_text}
use Rattle.hprof_describe.specs.Quoted.{behind_label}
use Rattle.hprof_describe.specs.References.{object_words, reference_text, reference_words, text_of_instance}

-- the findings with other objects, texts and names of threads
abbrev pub with_others : Findings → (ℕ → Option FactValue) → (ℕ → TextValue) → (ℕ → Option (List ℕ)) → Findings
with_others one object text thread_name = record {
  ids = one.ids;
  naming = one.naming;
  class = one.class;
  object = object;
  text = text;
  thread_name = thread_name;
}

module _ (one : Findings) (object : ℕ → Option FactValue) (text : ℕ → TextValue) (thread_name : ℕ → Option (List ℕ)) where
  abbrev other : Findings
  other = with_others one object text thread_name

  -- they say the same of the identifier
  pub record Agrees (id : ℕ) : Type 0 where
    pub object_is : one.object id ≡ object id
    pub text_is : one.text id ≡ text id
    pub name_is : one.thread_name id ≡ thread_name id

  module _ (id : ℕ) (agrees : Agrees id) where
    text_of_instance_same : (class : ℕ) → text_of_instance one id class ≡ text_of_instance other id class
    text_of_instance_same class =
        let is_string = bytes_eq (one.naming.label class) (codes "java/lang/String") in
        ap (λ (t : TextValue). if is_string then units_in t else one.thread_name id) agrees.text_is
        ∙ ap (λ (n : Option (List ℕ)). if is_string then units_in (text id) else n) agrees.name_is

    pub object_words_same : (fact : FactValue) → object_words one id fact ≡ object_words other id fact
    object_words_same (Instance same trace class bytes) =
        ap (λ (t : Option (List ℕ)). one.naming.label class ++ behind_label t) (text_of_instance_same class)
    object_words_same fact = refl

    words_of_found : (found : Option FactValue) → reference_words one id None found ≡ reference_words other id None found
    words_of_found (Some fact) = object_words_same fact
    words_of_found None = refl

    words_same : (class : Option ClassValue) → reference_words one id class (one.object id) ≡ reference_words other id class (object id)
    words_same (Some dump) = refl
    words_same None = ap (λ (o : Option FactValue). reference_words one id None o) agrees.object_is ∙ words_of_found (object id)

    pub reference_same : reference_text one id ≡ reference_text other id
    unfolding reference_text
    reference_same =
        ap (λ (w : List ℕ). if id == 0 then codes "null" else id_digits id ++ codes " " ++ w) (words_same (one.class id))

    pub kind_same : kind_text one id ≡ kind_text other id
    unfolding kind_text
    kind_same = ap (λ (o : Option FactValue). kind_of one.naming id (one.class id) o) agrees.object_is

    pub node_same : node_text one id ≡ node_text other id
    unfolding node_text
    node_same =
        ap (λ (k : List ℕ). id_digits id ++ codes " " ++ k ++ behind_label (name_of_node (one.class id) (one.thread_name id))) kind_same
        ∙ ap (λ (n : Option (List ℕ)). id_digits id ++ codes " " ++ kind_text other id ++ behind_label (name_of_node (one.class id) n))
        agrees.name_is
