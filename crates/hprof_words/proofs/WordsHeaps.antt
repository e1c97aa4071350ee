-- Heaps of a few objects, from which the words for some of them are read.
use Rattle.std.proofs.Common.{ℕ, List, subst}
use Rattle.hprof_values.specs.declared.ids.IdSize.{IdSize}
use Rattle.hprof_items.specs.FactValue.{FactValue}
use Rattle.hprof_rows.proofs.Order.{order_agrees}
use Rattle.hprof_heap.specs.declared.heap.Heap.{Heap}
use Rattle.hprof_heap.specs.HeapFacts.{facts_of, size_of}
use Rattle.hprof_passes.specs.Passing.{IsWhole}
use Rattle.hprof_small.specs.Small.{IsSmallHeap}
use Rattle.hprof_words.specs.Words.{HasNextOf, IsWordsHeap}
use Rattle.hprof_words.proofs.NextInAll.{next_of_in_all, words_of_two}

module _ (millis : ℕ) (ids : IdSize) (facts all : List FactValue) (whole : IsWhole ids facts all) (heap : Heap) where
  -- what was read of a small heap is so of the whole
  pub next_read : (some : List ℕ) → IsSmallHeap millis ids some all heap → (needed : List ℕ)
      → HasNextOf (size_of heap) (facts_of heap) some needed → HasNextOf ids all some needed
  next_read some is needed has =
      next_of_in_all ids some all (facts_of heap) is.facts (order_agrees all whole.ordered) needed
      (subst (λ (i : IdSize). HasNextOf i (facts_of heap) some needed) is.size has)

-- the last heap
pub words_heap_of : (millis : ℕ) (ids : IdSize) (all : List FactValue) (heap : Heap) (some next last : List ℕ)
    → HasNextOf ids all some next → HasNextOf ids all next last → IsSmallHeap millis ids last all heap
    → IsWordsHeap millis ids some all heap
words_heap_of millis ids all heap some next last one two is =
    record { wanted = last; is_small = is; has = words_of_two ids all some next last one two }
