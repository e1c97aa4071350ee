use Rattle.std.proofs.Common.{inl, inr}
use Rattle.hprof_heap.specs.Heap.{heap_of}
use Rattle.hprof_heap.specs.HeapFacts.{facts_of, size_of}
use Rattle.hprof_reports.specs.TextObjects.{IsHeapOfTwo, IsTextHeap}
use Rattle.hprof_reports.proofs.FoundSo.{found_so}
use Rattle.hprof_reports.proofs.ValueArrays.{object_is_enough, two_are_enough}
use Rattle.hprof_reports.proofs.text_objects.text_heap.Goals as goal

pub returns-then-array-eq0 : goal.returns-then-array-eq0
returns-then-array-eq0 g c =
    let ids = size_of c.args.heap.now in
    let facts = facts_of c.args.heap.now in
    let objects = c.args.objects.now in
    let found = c.in-Ok-value_array.ensures in (
      c.in-Ok.ensures.0,
      λ all make. object_is_enough (heap_of c.args.heap.now).millis ids facts all (g.met.O.Objects.whole objects ids facts all make)
          c.args.id c.in-Ok.string (c.in-Ok.ensures.1 all make) c.in-Ok-value_array.array
          (record { fields = found.0; are_fields = found.1; is_array = found.2 })
          (elim c.then-array-eq0.either [ inl none ↦ inl none | inr same ↦ inr same.1 ]),
    )

pub returns : goal.returns
returns g c =
    let ids = size_of c.args.heap.now in
    let facts = facts_of c.args.heap.now in
    let millis = (heap_of c.args.heap.now).millis in
    let objects = c.args.objects.now in
    let array = c.in-Ok-value_array.array in
    let found = c.in-Ok-value_array.ensures in
    found_so (g.O.Objects.make_up objects ids facts) (g.O.Objects.agree objects ids facts) (g.O.Objects.tells objects ids facts)
    (λ all. IsHeapOfTwo millis ids c.args.id array all) (λ all. IsTextHeap ids c.args.id all) c.heap_of_two.result c.heap_of_two.ensures
    (λ all small make two. two_are_enough millis ids facts all (g.met.O.Objects.whole objects ids facts all make) c.args.id c.in-Ok.string
    (c.in-Ok.ensures.1 all make) array (record { fields = found.0; are_fields = found.1; is_array = found.2 }) small two)
