use Rattle.std.specs.Prelude.{◌≡◌}
use Rattle.std.proofs.Common.{ℕ, List, subst}
use Rattle.hprof_heap.specs.Heap.{heap_of}
use Rattle.hprof_heap.specs.HeapFacts.{facts_of, size_of}
use Rattle.hprof_reports.proofs.FoundSo.{found_so}
use Rattle.hprof_words.specs.Words.{IsWordsHeap}
use Rattle.hprof_words.proofs.words.words_heap.Goals as goal

pub returns-in-Ok : goal.returns-in-Ok
returns-in-Ok g c =
    let ids = size_of c.args.heap.now in
    let facts = facts_of c.args.heap.now in
    let millis = (heap_of c.args.heap.now).millis in
    let objects = c.args.objects.now in
    found_so (g.O.Objects.make_up objects ids facts) (g.O.Objects.agree objects ids facts) (g.O.Objects.tells objects ids facts)
    (IsWordsHeap millis ids c.in-Ok.few.wanted.items) (IsWordsHeap millis ids c.args.wanted.items) c.words_of_few.result
    c.words_of_few.ensures
    (λ all small make is. subst (λ (l : List ℕ). IsWordsHeap millis ids l all small) (c.in-Ok.ensures.1 all make).1 is)
