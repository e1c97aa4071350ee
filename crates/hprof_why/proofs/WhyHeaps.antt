-- The heaps of the objects that the report `why` is read from.
use Rattle.std.specs.Prelude.{Contains}
use Rattle.std.proofs.Common.{ℕ, List, inr, subst}
use Rattle.hprof_values.specs.declared.ids.IdSize.{IdSize}
use Rattle.hprof_items.specs.FactValue.{FactValue}
use Rattle.hprof_rows.proofs.Order.{order_agrees}
use Rattle.hprof_heap.specs.declared.heap.Heap.{Heap}
use Rattle.hprof_heap.specs.HeapFacts.{facts_of, size_of}
use Rattle.hprof_passes.specs.Passing.{IsWhole}
use Rattle.hprof_words.specs.Words.{IsWordsHeap}
use Rattle.hprof_words.proofs.Among.{among_of_contains}
use Rattle.hprof_holders.proofs.WhoInAll.{roots_of_whole}
use Rattle.hprof_holders.proofs.WholeThreads.{object_same}
use Rattle.hprof_why.specs.declared.reached.Reached.{Reached}
use Rattle.hprof_why.specs.Paths.{IsReached, TellsFound}
use Rattle.hprof_why.specs.WhyObjects.{HasPathObjects, IsWhyHeap, path_nodes}
use Rattle.hprof_why.specs.WhyText.{ArePathFindings, IsWhyText, PathFindings}
use Rattle.hprof_why.proofs.Reaching.{why_told}
use Rattle.hprof_why.proofs.SomeText.{found_exist}
use Rattle.hprof_why.proofs.WhyInSmall.{tells_in_small}

module _ (ids : IdSize) (facts all : List FactValue) (whole : IsWhole ids facts all) where
  -- the threads of roots were found without objects
  pub why_heap_of : (millis : ℕ) (nodes : List ℕ) (id : ℕ) (path : List ℕ) (small : Heap) → Contains nodes id
      → HasPathObjects facts nodes path → IsWordsHeap millis ids nodes all small → IsWhyHeap ids id path all small
  why_heap_of millis nodes id path small own has is = record {
    size = is.is_small.size;
    wanted = is.wanted;
    facts = is.is_small.facts;
    own = (is.has id (among_of_contains nodes id own)).next.object;
    has = record {
      each = λ node there. is.has node (among_of_contains nodes node (has.each node there));
      threads = λ first rest split serial object of thread.
          inr (is.has object (among_of_contains nodes object (has.threads first rest split serial object
          (roots_of_whole ids facts all whole first serial of) (object_same ids facts all whole serial object thread))));
    };
  }

  -- the text that tells how the identifier is reached is the report on the whole, and told of the small heap
  pub why_over : (small : Heap) (id : ℕ) (how : Reached) (P : List ℕ → Type 0) → IsReached ids all id how
      → IsWhyHeap ids id (path_nodes how) all small
      → ((found : PathFindings) (text : List ℕ) → ArePathFindings (size_of small) (facts_of small) found
      → TellsFound (size_of small) (facts_of small) found id how text → P text)
      → (text : List ℕ) × IsWhyText ids all id text × P text
  why_over small id how P reached is writes =
      let agree = order_agrees all whole.ordered in
      let found = found_exist ids all agree in
      let told = why_told ids all agree found.0 found.1 id how (λ dumped. reached) in
      let here = found_exist ids (facts_of small) (order_agrees (facts_of small) is.facts.whole.ordered) in
      let text = tells_in_small ids is.wanted all (facts_of small) agree is.facts found.0 here.0 found.1 here.1 id is.own how told.0 is.has
      told.1 in
      let writes_here = subst (λ (i : IdSize). (f : PathFindings) (text : List ℕ) → ArePathFindings i (facts_of small) f
      → TellsFound i (facts_of small) f id how text → P text) is.size writes in
      (told.0, told.2, writes_here here.0 told.0 here.1 text)
