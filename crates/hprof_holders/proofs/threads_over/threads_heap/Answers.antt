use Rattle.hprof_heap.specs.Heap.{heap_of}
use Rattle.hprof_heap.specs.HeapFacts.{facts_of, size_of}
use Rattle.hprof_reports.proofs.FoundSo.{found_so}
use Rattle.hprof_words.specs.Words.{IsWordsHeap}
use Rattle.hprof_holders.specs.ThreadObjects.{IsThreadsHeap}
use Rattle.hprof_holders.proofs.ThreadsInAll.{threads_heap_of}
use Rattle.hprof_holders.proofs.threads_over.threads_heap.Goals as goal

pub returns-in-Ok : goal.returns-in-Ok
returns-in-Ok g c =
    let ids = size_of c.args.heap.now in
    let facts = facts_of c.args.heap.now in
    let millis = (heap_of c.args.heap.now).millis in
    let objects = c.args.objects.now in
    let nodes = c.in-Ok.nodes.items in
    found_so (g.O.Objects.make_up objects ids facts) (g.O.Objects.agree objects ids facts) (g.O.Objects.tells objects ids facts)
    (IsWordsHeap millis ids nodes) (IsThreadsHeap ids) c.words_heap.result c.words_heap.ensures
    (λ all small make is.
    threads_heap_of millis ids facts all nodes small (g.met.O.Objects.whole objects ids facts all make) c.in-Ok.ensures.has is)
