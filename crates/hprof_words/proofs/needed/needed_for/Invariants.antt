use Rattle.std.proofs.Common.{ℕ, ◌<◌, get_or}
use Rattle.hprof_heap.specs.HeapFacts.{facts_of, size_of}
use Rattle.hprof_words.specs.Words.{HasNext}
use Rattle.hprof_words.proofs.needed.needed_for.Given as goal

abbrev pub invariant-loop-id : goal.invariant-loop-id
invariant-loop-id l =
    (k : ℕ) → k < l.id-index → HasNext (size_of l.heap) (facts_of l.heap) l.needed.items (get_or l.some k 0)
