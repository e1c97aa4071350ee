-- The heap that is made of the objects that are picked.
use Rattle.std.proofs.Common.{◌≡◌, ℕ, List, ◌++◌, sym, ap, subst, ◌∙◌}
use Rattle.hprof_values.specs.declared.ids.IdSize.{IdSize}
use Rattle.hprof_items.specs.FactValue.{FactValue}
use Rattle.hprof_rows.specs.Facts.{AllFit, SameFacts}
use Rattle.hprof_rows.specs.HeapValue.{HeapValue}
use Rattle.hprof_heap.specs.declared.heap.Heap.{Heap}
use Rattle.hprof_heap.specs.Heap.{heap_of}
use Rattle.hprof_heap.specs.HeapFacts.{facts_of, size_of}
use Rattle.hprof_heap.specs.OtherFacts.{other_facts}
use Rattle.hprof_passes.specs.Passing.{IsWhole, TakesObjects}
use Rattle.hprof_small.specs.declared.few_objects.FewObjects.{FewObjects}
use Rattle.hprof_small.specs.FewObjects.{TakesObject}
use Rattle.hprof_small.specs.Small.{IsSmallHeap, wanted_objects}
use Rattle.hprof_small.proofs.SmallFacts.{small_of}
use Rattle.hprof_small.proofs.Taking.{takes_objects}

module _ (heap : Heap) (wanted : List ℕ) (all : List FactValue) (few new : FewObjects)
    (whole : IsWhole (size_of heap) (facts_of heap) all)
    (others : heap_of few.heap ≡ record (heap_of heap) { facts = other_facts (heap_of heap).facts })
    (took : TakesObjects TakesObject (size_of heap) few (wanted_objects wanted all) new) where
  pub small_heap_of : IsSmallHeap (heap_of heap).millis (size_of heap) wanted all new.heap
  unfolding facts_of size_of
  small_heap_of =
      let facts = (heap_of heap).facts in
      let objects = wanted_objects wanted all in
      let is = takes_objects (heap_of heap).ids objects few new (sym (ap (λ (value : HeapValue). value.ids) others)) took in
      let size : (heap_of new.heap).ids ≡ (heap_of heap).ids = is.ids ∙ ap (λ (value : HeapValue). value.ids) others in
      let same : SameFacts (heap_of new.heap).facts (other_facts facts ++ objects) =
      subst (λ (value : HeapValue). SameFacts (heap_of new.heap).facts (value.facts ++ objects)) others is.facts in
      record {
        time = is.millis ∙ ap (λ (value : HeapValue). value.millis) others;
        size = size;
        facts = small_of (heap_of heap).ids wanted facts all (heap_of new.heap).facts whole same is.is_heap.ordered
            (subst (λ (ids : IdSize). AllFit ids (heap_of new.heap).facts) size is.is_heap.fit);
      }
