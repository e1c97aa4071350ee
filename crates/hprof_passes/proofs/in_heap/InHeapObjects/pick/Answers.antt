use Rattle.std.proofs.Common.{◌+◌, List, drop, get_or, sym, subst}
use Rattle.std.proofs.lemmas.List.{drop_all}
use Rattle.hprof_items.specs.FactValue.{FactValue}
use Rattle.hprof_rows.specs.declared.table.Table.TheVariants as tables
use Rattle.hprof_rows.specs.Tables.{number_of_table, stands_in}
use Rattle.hprof_rows.proofs.ReadBack.{passed_ordered}
use Rattle.hprof_heap.specs.HeapFacts.{facts_of, size_of}
use Rattle.hprof_passes.specs.Passing.{RefusesObject, TakesObjects, objects_among}
use Rattle.hprof_passes.specs.Picked.{picked}
use Rattle.hprof_passes.proofs.LookedUp.{LooksUp, at_place, begins, ends, goes_on, refused}
use Rattle.hprof_passes.proofs.in_heap.InHeapObjects.pick.Goals as goal

pub loop-id-init : goal.loop-id-init
loop-id-init g c =
    begins g.T.ObjectSink.takes (size_of c.args.heap.now) (objects_among (facts_of c.args.heap.now)) c.args.wanted.now c.args.sink.now
    c.requires.ascend

pub returns-in-Err-clause-given : goal.returns-in-Err-clause-given
returns-in-Err-clause-given g c = λ all is.
    let takes = g.T.ObjectSink.takes in
    let refuses = g.T.ObjectSink.refuses in
    let ids = size_of c.args.heap.now in
    let facts = facts_of c.args.heap.now in
    let wanted = c.args.wanted.now in
    let place = c.loop-id.id-index in
    let ordered = passed_ordered (stands_in (number_of_table tables.Objects)) facts c.id_size.ensures.ordered in
    subst (λ (l : List FactValue). RefusesObject takes refuses ids (picked wanted (objects_among l)) c.in-Err.fault c.args.sink.now
    c.give_object.new.sink) (sym is.same)
    (refused takes ids (objects_among facts) ordered wanted c.args.sink.now c.loop-id.sink (get_or wanted place 0)
    (drop (place + 1) wanted)
    (at_place takes ids (objects_among facts) wanted c.args.sink.now c.loop-id.sink place c.loop-id-test.true c.loop-id.invariant)
    refuses c.in-Err.fault c.give_object.new.sink c.in-Err.ensures.refuses)

pub loop-id-preserved : goal.loop-id-preserved
loop-id-preserved g c =
    let takes = g.T.ObjectSink.takes in
    let ids = size_of c.args.heap.now in
    let facts = facts_of c.args.heap.now in
    let wanted = c.args.wanted.now in
    let place = c.loop-id.id-index in
    let ordered = passed_ordered (stands_in (number_of_table tables.Objects)) facts c.id_size.ensures.ordered in
    goes_on takes ids (objects_among facts) ordered wanted c.args.sink.now c.loop-id.sink (get_or wanted place 0)
    (drop (place + 1) wanted)
    (at_place takes ids (objects_among facts) wanted c.args.sink.now c.loop-id.sink place c.loop-id-test.true c.loop-id.invariant)
    c.give_object.new.sink c.in_default.ensures.takes

pub returns-clause-given : goal.returns-clause-given
returns-clause-given g c = λ all is.
    let takes = g.T.ObjectSink.takes in
    let ids = size_of c.args.heap.now in
    let objects = objects_among (facts_of c.args.heap.now) in
    let wanted = c.args.wanted.now in
    let none = drop_all c.loop-id.id-index wanted c.loop-id-test.false in
    subst (λ (l : List FactValue). TakesObjects takes ids c.args.sink.now (picked wanted (objects_among l)) c.loop-id.sink) (sym is.same)
    (ends takes ids objects wanted c.args.sink.now c.loop-id.sink
    (subst (LooksUp takes ids objects wanted c.args.sink.now c.loop-id.sink) none c.loop-id.invariant))
