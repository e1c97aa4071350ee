-- The words for an identifier in a small heap that has all objects which they are read from are those in the whole.
use Rattle.std.proofs.Common.{◌≡◌, ℕ, List, ap, ◌∙◌}
use Rattle.hprof_values.specs.declared.ids.IdSize.{IdSize}
use Rattle.hprof_items.specs.FactValue.{FactValue}
use Rattle.hprof_rows.specs.Conflict.{IsConsistent}
use Rattle.hprof_lines.proofs.WholeNames.{naming_same}
use Rattle.hprof_naming.proofs.Lookups.{object_once}
use Rattle.hprof_naming.proofs.OneText.{text_once}
use Rattle.hprof_small.specs.Small.{IsSmall}
use Rattle.hprof_small.proofs.SmallHas.{class_in_all, object_in_all}
use Rattle.hprof_threads.proofs.NameAnswers.{thread_name_once}
use Rattle.hprof_describe.specs.Findings.{AreFindings, Findings}
use Rattle.hprof_describe.specs.Nodes.{kind_text, node_text}
use Rattle.hprof_describe.specs.References.{object_words, reference_text}
use Rattle.hprof_describe.proofs.OneFinding.{one_findings}
use Rattle.hprof_reports.proofs.SmallTexts.{text_in_all}
use Rattle.hprof_words.specs.Words.{HasWords}
use Rattle.hprof_words.proofs.SameWords.{Agrees, kind_same, node_same, object_words_same, reference_same, with_others}
use Rattle.hprof_words.proofs.SmallNames.{thread_name_in_all}

module _ (ids : IdSize) (wanted : List ℕ) (all small : List FactValue) (agree : IsConsistent all) (is : IsSmall ids wanted all small)
    (one other : Findings) (are : AreFindings ids small one) (are_too : AreFindings ids all other) where
  -- those of the whole, with the names of the small heap
  abbrev pub others : Findings
  others = with_others one other.object other.text other.thread_name

  pub are_others : AreFindings ids all others
  are_others = record {
    ids_are = are.ids_are;
    is_naming = naming_same ids all small is.whole one.naming are.is_naming;
    classes = λ node. class_in_all ids wanted all small is node (one.class node) (are.classes node);
    objects = are_too.objects;
    texts = are_too.texts;
    thread_names = are_too.thread_names;
  }

  pub same_of : (node : ℕ) → HasWords ids all wanted node → Agrees one other.object other.text other.thread_name node
  same_of node words = record {
    object_is = object_once all agree node (one.object node) (other.object node)
        (object_in_all ids wanted all small is node words.next.object (one.object node) (are.objects node)) (are_too.objects node);
    text_is = text_once all agree ids node (one.text node) (other.text node)
        (text_in_all ids wanted all small is node (one.text node) words.next.object words.next.array (are.texts node))
        (are_too.texts node);
    name_is = thread_name_once all agree ids node (one.thread_name node) (other.thread_name node)
        (thread_name_in_all ids wanted all small is node (one.thread_name node) words (are.thread_names node))
        (are_too.thread_names node);
  }

  others_are : others ≡ other
  others_are = one_findings ids all agree others other are_others are_too

  -- ---- words

  module _ (node : ℕ) (words : HasWords ids all wanted node) where
    pub kind_in_all : kind_text one node ≡ kind_text other node
    kind_in_all = kind_same one other.object other.text other.thread_name node (same_of node words)
        ∙ ap (λ (f : Findings). kind_text f node) others_are

    pub node_in_all : node_text one node ≡ node_text other node
    node_in_all = node_same one other.object other.text other.thread_name node (same_of node words)
        ∙ ap (λ (f : Findings). node_text f node) others_are

    pub reference_in_all : reference_text one node ≡ reference_text other node
    reference_in_all = reference_same one other.object other.text other.thread_name node (same_of node words)
        ∙ ap (λ (f : Findings). reference_text f node) others_are

    pub object_words_in_all : (fact : FactValue) → object_words one node fact ≡ object_words other node fact
    object_words_in_all fact = object_words_same one other.object other.text other.thread_name node (same_of node words) fact
        ∙ ap (λ (f : Findings). object_words f node fact) others_are
