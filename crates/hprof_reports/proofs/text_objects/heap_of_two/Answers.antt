use Rattle.std.proofs.Common.{[], ◌∷◌, ℕ, List}
use Rattle.hprof_heap.specs.Heap.{heap_of}
use Rattle.hprof_heap.specs.HeapFacts.{facts_of, size_of}
use Rattle.hprof_small.specs.Small.{IsSmallHeap}
use Rattle.hprof_reports.specs.TextObjects.{IsHeapOfTwo}
use Rattle.hprof_reports.proofs.FoundSo.{found_so}
use Rattle.hprof_reports.proofs.ValueArrays.{first_of_two, second_of_two}
use Rattle.hprof_reports.proofs.text_objects.heap_of_two.Goals as goal

pub returns-then-one-other : goal.returns-then-one-other
returns-then-one-other g c =
    let ids = size_of c.args.heap.now in
    let facts = facts_of c.args.heap.now in
    let millis = (heap_of c.args.heap.now).millis in
    let objects = c.args.objects.now in
    let one = c.args.one in
    let other = c.args.other in
    let wanted : List ℕ = one ∷ other ∷ [] in
    found_so (g.O.Objects.make_up objects ids facts) (g.O.Objects.agree objects ids facts) (g.O.Objects.tells objects ids facts)
    (λ all. IsSmallHeap millis ids wanted all) (λ all. IsHeapOfTwo millis ids one other all) c.small_heap.result c.small_heap.ensures
    (λ all small make is. record {
      wanted = wanted;
      is_small = is;
      has_one = first_of_two one other;
      has_other = second_of_two one other;
    })

pub returns-else-one-other : goal.returns-else-one-other
returns-else-one-other g c =
    let ids = size_of c.args.heap.now in
    let facts = facts_of c.args.heap.now in
    let millis = (heap_of c.args.heap.now).millis in
    let objects = c.args.objects.now in
    let one = c.args.one in
    let other = c.args.other in
    let wanted : List ℕ = other ∷ one ∷ [] in
    found_so (g.O.Objects.make_up objects ids facts) (g.O.Objects.agree objects ids facts) (g.O.Objects.tells objects ids facts)
    (λ all. IsSmallHeap millis ids wanted all) (λ all. IsHeapOfTwo millis ids one other all)
    c.small_heap-else-one-other.result c.small_heap-else-one-other.ensures
    (λ all small make is. record {
      wanted = wanted;
      is_small = is;
      has_one = second_of_two other one;
      has_other = first_of_two other one;
    })
