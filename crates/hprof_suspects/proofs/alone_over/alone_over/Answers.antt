use Rattle.std.proofs.Common.{List, ℕ, subst}
use Rattle.hprof_heap.specs.Heap.{heap_of}
use Rattle.hprof_heap.specs.HeapFacts.{facts_of, size_of}
use Rattle.hprof_rows.proofs.Order.{order_agrees}
use Rattle.hprof_small.specs.Small.{IsSmallHeap}
use Rattle.hprof_suspects.proofs.ClassObjects.{class_objects}
use Rattle.hprof_suspects.proofs.alone_over.alone_over.Goals as goal

pub returns-in-Ok-alone_of-clause-alone : goal.returns-in-Ok-alone_of-clause-alone
returns-in-Ok-alone_of-clause-alone g c =
    let ids = size_of c.args.heap.now in
    let facts = facts_of c.args.heap.now in
    let small = c.in_ok-small.small in (
      c.in_ok-small.ensures.0,
      λ all make labelled.
          let whole = g.met.O.Objects.whole c.args.objects.now ids facts all make in
          let is = subst (λ (l : List ℕ). IsSmallHeap (heap_of c.args.heap.now).millis ids l all small) c.deref.ensures.value
          (c.in_ok-small.ensures.1 all make) in
          c.in-Ok-alone_of.ensures.alone all (order_agrees all whole.ordered) labelled
          (class_objects ids all (facts_of small) c.args.retained.now c.args.labels.now c.in-Ok.nodes.items is.facts c.in-Ok.ensures.has),
    )
