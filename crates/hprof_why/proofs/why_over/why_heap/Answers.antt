use Rattle.hprof_heap.specs.Heap.{heap_of}
use Rattle.hprof_heap.specs.HeapFacts.{facts_of, size_of}
use Rattle.hprof_reports.proofs.FoundSo.{found_so}
use Rattle.hprof_words.specs.Words.{IsWordsHeap}
use Rattle.hprof_why.specs.WhyObjects.{IsWhyHeap, path_nodes}
use Rattle.hprof_why.proofs.WhyHeaps.{why_heap_of}
use Rattle.hprof_why.proofs.why_over.why_heap.Goals as goal

pub returns-in-Ok : goal.returns-in-Ok
returns-in-Ok g c =
    let ids = size_of c.args.heap.now in
    let facts = facts_of c.args.heap.now in
    let millis = (heap_of c.args.heap.now).millis in
    let objects = c.args.objects.now in
    let path = path_nodes c.args.reached.now in
    let nodes = c.in-Ok.nodes.items in
    found_so (g.O.Objects.make_up objects ids facts) (g.O.Objects.agree objects ids facts) (g.O.Objects.tells objects ids facts)
    (IsWordsHeap millis ids nodes) (IsWhyHeap ids c.args.id path) c.words_heap.result c.words_heap.ensures
    (λ all small make is. why_heap_of ids facts all (g.met.O.Objects.whole objects ids facts all make) millis nodes c.args.id path small
    c.in-Ok.ensures.own c.in-Ok.ensures.path is)
