use Rattle.hprof_heap.specs.Heap.{heap_of}
use Rattle.hprof_heap.specs.HeapFacts.{facts_of, size_of}
use Rattle.hprof_reports.proofs.FoundSo.{found_so}
use Rattle.hprof_words.specs.Words.{IsWordsHeap}
use Rattle.hprof_show.specs.ShownObjects.{IsShownHeap}
use Rattle.hprof_show.proofs.FewHeaps.{shown_heap}
use Rattle.hprof_show.proofs.few.show_heap.Goals as goal

pub returns : goal.returns
returns g c =
    let ids = size_of c.args.heap.now in
    let facts = facts_of c.args.heap.now in
    let millis = (heap_of c.args.heap.now).millis in
    let objects = c.args.objects.now in
    let some = c.in_ok-shown.shown.wanted.items in
    found_so (g.O.Objects.make_up objects ids facts) (g.O.Objects.agree objects ids facts) (g.O.Objects.tells objects ids facts)
    (IsWordsHeap millis ids some) (IsShownHeap ids c.args.id) c.words_of_few.result c.words_of_few.ensures
    (λ all small make is. shown_heap millis ids all small c.args.id some (c.in_ok-shown.ensures.1 all make).1 is)
