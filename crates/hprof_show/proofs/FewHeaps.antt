-- Heaps of a few objects, from which the report `show` is written.
use Rattle.std.specs.Prelude.{IsTrue}
use Rattle.std.proofs.Common.{ℕ, List, subst}
use Rattle.hprof_values.specs.declared.ids.IdSize.{IdSize}
use Rattle.hprof_items.specs.FactValue.{FactValue}
use Rattle.hprof_rows.proofs.Order.{order_agrees}
use Rattle.hprof_heap.specs.declared.heap.Heap.{Heap}
use Rattle.hprof_heap.specs.HeapFacts.{facts_of, size_of}
use Rattle.hprof_histogram.specs.Chosen.{is_among}
use Rattle.hprof_passes.specs.Passing.{IsWhole}
use Rattle.hprof_small.specs.Small.{IsSmallHeap}
use Rattle.hprof_words.specs.Words.{IsWordsHeap}
use Rattle.hprof_show.specs.ShownObjects.{HasShownIds, IsShownHeap}
use Rattle.hprof_show.specs.ShowText.{IsShowText}
use Rattle.hprof_show.proofs.ShownFound.{has_shown_of, shown_in_all}
use Rattle.hprof_show.proofs.ShowInAll.{show_in_all}

module _ (millis : ℕ) (ids : IdSize) (facts all : List FactValue) (whole : IsWhole ids facts all) (heap : Heap) where
  -- what was read of a small heap is so of the whole
  pub shown_read : (some : List ℕ) → IsSmallHeap millis ids some all heap → (id : ℕ) → IsTrue (is_among some id) → (shown : List ℕ)
      → HasShownIds (size_of heap) (facts_of heap) id shown → HasShownIds ids all id shown
  shown_read some is id among shown has =
      shown_in_all ids some all (facts_of heap) is.facts (order_agrees all whole.ordered) id among shown
      (subst (λ (i : IdSize). HasShownIds i (facts_of heap) id shown) is.size has)

-- the last heap
pub shown_heap : (millis : ℕ) (ids : IdSize) (all : List FactValue) (heap : Heap) (id : ℕ) (some : List ℕ) → HasShownIds ids all id some
    → IsWordsHeap millis ids some all heap → IsShownHeap ids id all heap
shown_heap millis ids all heap id some has is = record {
  size = is.is_small.size;
  wanted = is.wanted;
  facts = is.is_small.facts;
  has = has_shown_of ids all id some is.wanted has is.has;
}

-- a text that is that of such a heap is that of the whole
pub show_over : (ids : IdSize) (facts all : List FactValue) → IsWhole ids facts all → (small : Heap) (id : ℕ) (P : List ℕ → Type 0)
    → IsShownHeap ids id all small → (text : List ℕ) × IsShowText (size_of small) (facts_of small) id text × P text
    → (text : List ℕ) × IsShowText ids all id text × P text
show_over ids facts all whole small id P is written = (
  written.0,
  show_in_all ids is.wanted all (facts_of small) id (order_agrees all whole.ordered) is.facts is.has written.0
      (subst (λ (i : IdSize). IsShowText i (facts_of small) id written.0) is.size written.1),
  written.2,
)
