use Rattle.std.proofs.Common.{[], subst, sym, refl}
use Rattle.std.proofs.lemmas.Result.{IfErr-weaker}
use Rattle.hprof_values.specs.declared.ids.IdSize.{IdSize}
use Rattle.hprof_items.specs.FactValue.{value_of}
use Rattle.hprof_items.specs.Spelling.{Fits}
use Rattle.hprof_heap.specs.HeapFacts.{facts_of}
use Rattle.hprof_passes.proofs.PickedObjects.{picked_has}
use Rattle.hprof_passes.proofs.in_heap.give_object.Goals as goal

pub take-requires-clause-fits : goal.take-requires-clause-fits
take-requires-clause-fits g c =
    subst (λ (ids : IdSize). Fits ids (value_of c.in-Some.object)) (sym c.id_size-ids.ensures.value)
    (c.id_size-ids.ensures.fit (value_of c.in-Some.object)
    (picked_has c.args.id (facts_of c.args.heap.now) (value_of c.in-Some.object) c.in-Some.ensures.value))

pub returns-in-Some-clause-refuses : goal.returns-in-Some-clause-refuses
returns-in-Some-clause-refuses g c =
    let object = value_of c.in-Some.object in
    let old = c.args.sink.now in
    IfErr-weaker c.take.result _ _ (λ fault refused. record {
      front = [];
      object = object;
      behind = [];
      are = c.in-Some.ensures.value;
      mid = old;
      took = refl;
      refused = subst (λ (ids : IdSize). g.T.ObjectSink.refuses old ids object fault c.take.new.self) c.id_size-ids.ensures.value refused;
    }) c.take.ensures.refuses
