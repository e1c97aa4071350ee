use Rattle.std.specs.Prelude.{Contains}
use Rattle.std.proofs.Common.{List, sym, subst}
use Rattle.hprof_heap.specs.Heap.{heap_of}
use Rattle.hprof_heap.specs.HeapFacts.{facts_of, size_of}
use Rattle.hprof_reports.proofs.FoundSo.{found_so}
use Rattle.hprof_words.specs.Words.{IsWordsHeap}
use Rattle.hprof_words.proofs.Among.{among_of_contains}
use Rattle.hprof_suspects.specs.declared.told.Told.{Told}
use Rattle.hprof_suspects.specs.ToldHeaps.{IsToldHeap, named_nodes}
use Rattle.hprof_suspects.proofs.writing_over.told_heap.Goals as goal

pub returns-in-Ok : goal.returns-in-Ok
returns-in-Ok g c =
    let ids = size_of c.args.heap.now in
    let facts = facts_of c.args.heap.now in
    let millis = (heap_of c.args.heap.now).millis in
    let objects = c.args.objects.now in
    let found = c.args.found.now in
    let nodes = c.in-Ok.nodes.items in
    found_so (g.O.Objects.make_up objects ids facts) (g.O.Objects.agree objects ids facts) (g.O.Objects.tells objects ids facts)
    (IsWordsHeap millis ids nodes) (IsToldHeap ids (named_nodes found.retained found.told.items)) c.words_heap.result c.words_heap.ensures
    (λ all small make is. record {
      size = is.is_small.size;
      wanted = is.wanted;
      facts = is.is_small.facts;
      has = λ node there. is.has node (among_of_contains nodes node (c.in-Ok.ensures.has node
          (subst (λ (l : List Told). Contains (named_nodes found.retained l) node) (sym c.deref.ensures.value) there)));
    })
