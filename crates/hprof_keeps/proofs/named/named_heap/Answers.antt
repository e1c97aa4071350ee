use Rattle.hprof_heap.specs.Heap.{heap_of}
use Rattle.hprof_heap.specs.HeapFacts.{facts_of, size_of}
use Rattle.hprof_reports.proofs.FoundSo.{found_so}
use Rattle.hprof_words.specs.Words.{IsWordsHeap}
use Rattle.hprof_keeps.specs.Kept.{IsNamedHeap, nodes_at}
use Rattle.hprof_keeps.proofs.NamedNodes.{named_heap_of}
use Rattle.hprof_keeps.proofs.named.named_heap.Goals as goal

pub returns-in-Ok : goal.returns-in-Ok
returns-in-Ok g c =
    let ids = size_of c.args.heap.now in
    let facts = facts_of c.args.heap.now in
    let millis = (heap_of c.args.heap.now).millis in
    let objects = c.args.objects.now in
    let some = nodes_at c.args.retained.now c.args.some.now in
    let more = nodes_at c.args.retained.now c.args.more.now in
    let nodes = c.in-Ok.nodes.items in
    found_so (g.O.Objects.make_up objects ids facts) (g.O.Objects.agree objects ids facts) (g.O.Objects.tells objects ids facts)
    (IsWordsHeap millis ids nodes) (IsNamedHeap ids some more) c.words_heap.result c.words_heap.ensures
    (λ all small make is. named_heap_of ids all small millis nodes some more c.in-Ok.ensures.some c.in-Ok.ensures.more is)
