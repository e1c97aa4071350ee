-- The report `threads` of a small heap that has all objects which it is read from is that of the whole.
use Rattle.std.specs.Prelude.{Contains, ◌⊎◌}
use Rattle.std.proofs.Common.{◌≡◌, ℕ, List, inl, inr, subst, ◌∙◌}
use Rattle.std.proofs.lemmas.List.Elements.{All-contains_itself, All-weaker}
use Rattle.hprof_values.specs.declared.ids.IdSize.{IdSize}
use Rattle.hprof_items.specs.FactValue.{FactValue}
use Rattle.hprof_rows.specs.Conflict.{IsConsistent}
use Rattle.hprof_rows.proofs.Order.{order_agrees}
use Rattle.hprof_heap.specs.declared.heap.Heap.{Heap}
use Rattle.hprof_heap.specs.HeapFacts.{facts_of, size_of}
use Rattle.hprof_passes.specs.Passing.{IsWhole}
use Rattle.hprof_small.specs.Small.{IsSmall}
use Rattle.hprof_describe.specs.Findings.{AreFindings, Findings}
use Rattle.hprof_describe.proofs.OneFinding.{findings_exist}
use Rattle.hprof_words.specs.Words.{HasWords, IsWordsHeap}
use Rattle.hprof_words.proofs.Among.{among_of_contains}
use Rattle.hprof_words.proofs.SameWords.{node_same, with_others}
use Rattle.hprof_words.proofs.WordsInAll.{are_others, same_of}
use Rattle.hprof_holders.specs.ThreadObjects.{HasAllThreadObjects, HasAllThreadWords, IsThreadsHeap}
use Rattle.hprof_holders.specs.ThreadsText.{IsThreadsText}
use Rattle.hprof_holders.proofs.SameThreads.{SameNode, SameThread, texts_same, thread_same}
use Rattle.hprof_holders.proofs.WholeThreads.{held_by_same, held_there, object_same, serials_same, thread_there, threads_same}

module _ (ids : IdSize) (wanted : List ℕ) (all small : List FactValue) (agree : IsConsistent all) (is : IsSmall ids wanted all small)
    (has : HasAllThreadWords ids all wanted) (text : List ℕ) (of : IsThreadsText ids small text) (whole : Findings)
    (are : AreFindings ids all whole) where
  abbrev others : Findings
  others = with_others of.found whole.object whole.text whole.thread_name

  node_is : (node : ℕ) → HasWords ids all wanted node → SameNode of.found others of.threads node
  node_is node words = node_same of.found whole.object whole.text whole.thread_name node
      (same_of ids wanted all small agree is of.found whole of.are_found are node words)

  thread_is : (serial : ℕ) → Contains of.serials serial → SameThread of.found others of.threads of.held serial
  thread_is serial here =
      let words = has serial (((serials_same ids all small is.whole of.serials of.are_serials).exact serial).0 here) in
      let object = (threads_same ids all small is.whole of.found.naming of.threads of.are_threads).objects serial in
      let rows = held_by_same ids all small is.whole serial (of.held serial) (of.are_held serial) in
      let own : (of.threads.object serial ≡ 0) ⊎ SameNode of.found others of.threads (of.threads.object serial) =
      elim (words.own (of.threads.object serial) object) [
        | inl zero ↦ inl zero
        | inr there ↦ inr (node_is (of.threads.object serial) there)
      ] in
      thread_same of.found others of.threads serial (of.held serial) own
      (All-weaker (Contains (of.held serial)) (λ held. SameNode of.found others of.threads held.object)
      (λ held in_rows. let it = (rows.exact held).0 in_rows in node_is held.object (words.held held it.0 it.1)) (of.held serial)
      (All-contains_itself (of.held serial)))

  threads_of_whole : IsThreadsText ids all text
  threads_of_whole = record {
    agree = agree;
    found = others;
    are_found = are_others ids wanted all small agree is of.found whole of.are_found are;
    threads = of.threads;
    are_threads = threads_same ids all small is.whole of.found.naming of.threads of.are_threads;
    held = of.held;
    are_held = λ serial. held_by_same ids all small is.whole serial (of.held serial) (of.are_held serial);
    serials = of.serials;
    are_serials = serials_same ids all small is.whole of.serials of.are_serials;
    is = of.is ∙ texts_same of.found others of.threads of.held of.serials
        (All-weaker (Contains of.serials) (SameThread of.found others of.threads of.held) thread_is of.serials
        (All-contains_itself of.serials));
  }

pub threads_in_all : (ids : IdSize) (wanted : List ℕ) (all small : List FactValue) (text : List ℕ) → IsConsistent all
    → IsSmall ids wanted all small → HasAllThreadWords ids all wanted → IsThreadsText ids small text → IsThreadsText ids all text
threads_in_all ids wanted all small text agree is has of =
    let whole = findings_exist ids all agree in threads_of_whole ids wanted all small agree is has text of whole.0 whole.1

-- ---- heaps

-- the objects of threads were found without objects
pub threads_heap_of : (millis : ℕ) (ids : IdSize) (facts all : List FactValue) (nodes : List ℕ) (small : Heap) → IsWhole ids facts all
    → HasAllThreadObjects facts nodes → IsWordsHeap millis ids nodes all small → IsThreadsHeap ids all small
threads_heap_of millis ids facts all nodes small whole has is = record {
  size = is.is_small.size;
  wanted = is.wanted;
  facts = is.is_small.facts;
  has = λ serial thread.
      let objects = has serial (thread_there ids facts all whole serial thread) in
      record {
        own = λ object of.
            inr (is.has object (among_of_contains nodes object (objects.own object (object_same ids facts all whole serial object of))));
        held = λ held of by. is.has held.object
            (among_of_contains nodes held.object (objects.held held (held_there ids facts all whole held of) by));
      };
}

-- a text that is that of such a heap is that of the whole
pub threads_over : (ids : IdSize) (facts all : List FactValue) → IsWhole ids facts all → (small : Heap) (P : List ℕ → Type 0)
    → IsThreadsHeap ids all small → (text : List ℕ) × IsThreadsText (size_of small) (facts_of small) text × P text
    → (text : List ℕ) × IsThreadsText ids all text × P text
threads_over ids facts all whole small P is written = (
  written.0,
  threads_in_all ids is.wanted all (facts_of small) written.0 (order_agrees all whole.ordered) is.facts is.has
      (subst (λ (i : IdSize). IsThreadsText i (facts_of small) written.0) is.size written.1),
  written.2,
)
