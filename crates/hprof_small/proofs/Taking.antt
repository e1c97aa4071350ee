-- A heap in the making that takes objects.
use Rattle.std.proofs.Common.{◌≡◌, List, [], ◌∷◌, ◌++◌, inl, inr, refl, sym, subst, ◌∙◌, append-nil, append_assoc}
use Rattle.hprof_values.specs.declared.ids.IdSize.{IdSize}
use Rattle.hprof_items.specs.FactValue.{FactValue}
use Rattle.hprof_tables.specs.declared.relation.Stated.TheVariants.{New, Same}
use Rattle.hprof_rows.specs.Facts.{Has, SameFacts}
use Rattle.hprof_rows.specs.HeapValue.{HeapValue, IsHeap}
use Rattle.hprof_rows.specs.Stating.{StatesInto}
use Rattle.hprof_rows.proofs.FactSets.{Has-front, Has-parts, SameFacts-append, SameFacts-refl, SameFacts-trans, SameFacts-turned}
use Rattle.hprof_heap.specs.Heap.{heap_of}
use Rattle.hprof_heap.specs.Join.{TakesFacts}
use Rattle.hprof_passes.specs.Passing.{TakesObjects}
use Rattle.hprof_small.specs.declared.few_objects.FewObjects.{FewObjects}
use Rattle.hprof_small.specs.FewObjects.{TakesObject}

-- ---- a fact

-- a new fact is taken
pub takes_new : (old new : HeapValue) (fact : FactValue) → StatesInto old fact New new → TakesFacts old (fact ∷ []) new
takes_new old new fact adds = record {
  ids = adds.ids;
  millis = adds.millis;
  facts = SameFacts-trans new.facts (fact ∷ old.facts) (old.facts ++ fact ∷ []) adds.facts (SameFacts-turned (fact ∷ []) old.facts);
  is_heap = adds.is_heap;
}

-- and so is one that is there
has_there : (facts : List FactValue) (fact : FactValue) → Has facts fact → (other : FactValue) → Has (facts ++ fact ∷ []) other
    → Has facts other
has_there facts fact there other has = elim (Has-parts facts (fact ∷ []) other has) [
  | inl here ↦ here
  | inr last ↦ elim last [ inl same ↦ subst (Has facts) (sym same) there | inr nothing ↦ absurd nothing ]
]

pub takes_same : (old new : HeapValue) (fact : FactValue) → IsHeap old → StatesInto old fact Same new → TakesFacts old (fact ∷ []) new
takes_same old new fact is stated =
    subst (TakesFacts old (fact ∷ [])) (sym stated.1)
    (record {
      ids = refl;
      millis = refl;
      facts = λ other. (Has-front old.facts (fact ∷ []) other, has_there old.facts fact stated.0 other);
      is_heap = is;
    })

-- ---- objects

-- each of the objects is taken
pub takes_objects : (ids : IdSize) (objects : List FactValue) (old new : FewObjects) → ids ≡ (heap_of old.heap).ids
    → TakesObjects TakesObject ids old objects new → TakesFacts (heap_of old.heap) objects (heap_of new.heap)
takes_objects ids [] old new size same =
    subst (λ (few : FewObjects). TakesFacts (heap_of old.heap) [] (heap_of few.heap)) same
    (record {
      ids = refl;
      millis = refl;
      facts = subst (SameFacts (heap_of old.heap).facts) (sym (append-nil (heap_of old.heap).facts))
          (SameFacts-refl (heap_of old.heap).facts);
      is_heap = old.heap.sound.heap;
    })
takes_objects ids (object ∷ objects) old new size took =
    let before = heap_of old.heap in
    let between = heap_of took.0.heap in
    let after = heap_of new.heap in
    let first = took.1 size in
    let rest = takes_objects ids objects took.0 new (size ∙ sym first.ids) took.2 in
    record {
      ids = rest.ids ∙ first.ids;
      millis = rest.millis ∙ first.millis;
      facts = subst (SameFacts after.facts) (append_assoc before.facts (object ∷ []) objects)
          (SameFacts-trans after.facts (between.facts ++ objects) ((before.facts ++ object ∷ []) ++ objects) rest.facts
          (SameFacts-append between.facts objects (before.facts ++ object ∷ []) objects first.facts (SameFacts-refl objects)));
      is_heap = rest.is_heap;
    }
