use Rattle.hprof_heap.specs.HeapFacts.{facts_of, size_of}
use Rattle.std.proofs.Common.{sym, subst}
use Rattle.hprof_heap.specs.declared.heap.Heap.{Heap}
use Rattle.hprof_heap.specs.Heap.{heap_of}
use Rattle.hprof_small.specs.Small.{IsSmallHeap}
use Rattle.hprof_small.proofs.SmallHeaps.{small_heap_of}
use Rattle.hprof_small.proofs.small.small_heap.Goals as goal

pub returns : goal.returns
returns g c =
    let heap = c.args.heap.now in
    let ids = size_of heap in
    let facts = facts_of heap in (
      c.in-Ok-pick.ensures.agree,
      λ all make. subst (λ (small : Heap). IsSmallHeap (heap_of heap).millis ids c.args.wanted.now all small) (sym c.finish.ensures)
          (small_heap_of heap c.args.wanted.now all c.in-Ok.few c.pick.new.sink
          (g.met.O.Objects.whole c.args.objects.now ids facts all make) c.in-Ok.ensures (c.in-Ok-pick.ensures.given all make)),
    )
