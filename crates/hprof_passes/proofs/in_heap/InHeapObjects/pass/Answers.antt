use Rattle.std.proofs.Common.{List, subst, sym, ◌∙◌}
use Rattle.hprof_values.specs.declared.ids.IdSize.{IdSize}
use Rattle.hprof_items.specs.FactValue.{FactValue, ListsHave, value_of}
use Rattle.hprof_rows.specs.FactsLeft.{facts_left}
use Rattle.hprof_rows.specs.Facts.{AllFit}
use Rattle.hprof_heap.specs.HeapFacts.{facts_of, size_of}
use Rattle.hprof_passes.specs.Passing.{RefusesObject, TakesObjects, objects_among}
use Rattle.hprof_passes.proofs.GoingOver.{begins, ends, goes_on, next_fits, refused}
use Rattle.hprof_passes.proofs.in_heap.InHeapObjects.pass.Goals as goal

pub loop-facts-init : goal.loop-facts-init
loop-facts-init g c = record {
  over = begins g.T.ObjectSink.takes c.id_size-ids.result (facts_of c.args.heap.now) (facts_left c.table_facts-facts.result)
      c.args.sink.now
      (subst (λ (ids : IdSize). AllFit ids (facts_of c.args.heap.now)) (sym c.id_size-ids.ensures.value) c.id_size-ids.ensures.fit)
      c.table_facts-facts.ensures.all;
  ids = c.table_facts-facts.ensures.ids ∙ sym c.id_size-ids.ensures.value;
}

pub take-requires-clause-fits : goal.take-requires-clause-fits
take-requires-clause-fits g c =
    next_fits g.T.ObjectSink.takes c.id_size-ids.result (objects_among (facts_of c.args.heap.now)) c.args.sink.now c.loop-facts.sink
    (facts_left c.loop-facts.facts) (facts_left c.next_into.new.self) (value_of c.next_into.new.fact)
    (c.next_into.ensures.some c.loop-facts-test.true) c.loop-facts.invariant.over

pub take-requires-clause-lists : goal.take-requires-clause-lists
take-requires-clause-lists g c =
    subst (λ (ids : IdSize). ListsHave ids c.next_into.new.fact) c.loop-facts.invariant.ids
    (c.next_into.ensures.lists c.loop-facts-test.true)

pub returns-in-Err-clause-given : goal.returns-in-Err-clause-given
returns-in-Err-clause-given g c = λ all is.
    let objects = objects_among (facts_of c.args.heap.now) in
    subst (λ (facts : List FactValue). RefusesObject g.T.ObjectSink.takes g.T.ObjectSink.refuses (size_of c.args.heap.now)
    (objects_among facts) c.in-Err.fault c.args.sink.now c.take.new.self) (sym is.same)
    (subst (λ (ids : IdSize). RefusesObject g.T.ObjectSink.takes g.T.ObjectSink.refuses ids objects c.in-Err.fault c.args.sink.now
    c.take.new.self) c.id_size-ids.ensures.value
    (refused g.T.ObjectSink.takes c.id_size-ids.result g.T.ObjectSink.refuses objects c.args.sink.now c.loop-facts.sink c.take.new.self
    (facts_left c.loop-facts.facts) (facts_left c.next_into.new.self) (value_of c.next_into.new.fact) c.in-Err.fault
    (c.next_into.ensures.some c.loop-facts-test.true) c.in-Err.ensures.refuses c.loop-facts.invariant.over))

pub loop-facts-preserved : goal.loop-facts-preserved
loop-facts-preserved g c = record {
  over = goes_on g.T.ObjectSink.takes c.id_size-ids.result (objects_among (facts_of c.args.heap.now)) c.args.sink.now c.loop-facts.sink
      c.take.new.self (facts_left c.loop-facts.facts) (facts_left c.next_into.new.self) (value_of c.next_into.new.fact)
      (c.next_into.ensures.some c.loop-facts-test.true) c.in_default.ensures.takes c.loop-facts.invariant.over;
  ids = c.next_into.ensures.ids ∙ c.loop-facts.invariant.ids;
}

pub returns-clause-given : goal.returns-clause-given
returns-clause-given g c = λ all is.
    let objects = objects_among (facts_of c.args.heap.now) in
    subst (λ (facts : List FactValue). TakesObjects g.T.ObjectSink.takes (size_of c.args.heap.now) c.args.sink.now
    (objects_among facts) c.loop-facts.sink) (sym is.same)
    (subst (λ (ids : IdSize). TakesObjects g.T.ObjectSink.takes ids c.args.sink.now objects c.loop-facts.sink) c.id_size-ids.ensures.value
    (ends g.T.ObjectSink.takes c.id_size-ids.result objects c.args.sink.now c.loop-facts.sink (facts_left c.loop-facts.facts)
    (c.next_into.ensures.none c.loop-facts-test.false).0 c.loop-facts.invariant.over))
