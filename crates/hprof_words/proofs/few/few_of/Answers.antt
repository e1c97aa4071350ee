use Rattle.std.specs.List.Sorted.{IsStrictlyIncreasing}
use Rattle.std.proofs.Common.{ℕ, List, refl, subst, sym}
use Rattle.hprof_heap.specs.Heap.{heap_of}
use Rattle.hprof_heap.specs.HeapFacts.{size_of}
use Rattle.hprof_small.specs.Small.{IsSmallHeap}
use Rattle.hprof_words.proofs.few.few_of.Goals as goal

pub small_heap-requires : goal.small_heap-requires
small_heap-requires g c = subst IsStrictlyIncreasing (sym c.deref.ensures.value) c.requires

pub returns-in-Ok : goal.returns-in-Ok
returns-in-Ok g c = (
  c.in-Ok.ensures.0,
  λ all make. (
    subst (λ (l : List ℕ). IsSmallHeap (heap_of c.args.heap.now).millis (size_of c.args.heap.now) l all c.in-Ok.heap)
        c.deref.ensures.value (c.in-Ok.ensures.1 all make),
    refl,
  ),
)
