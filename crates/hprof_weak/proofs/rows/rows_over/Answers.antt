use Rattle.hprof_rows.proofs.Order.{order_agrees}
use Rattle.hprof_heap.specs.HeapFacts.{facts_of, size_of}
use Rattle.hprof_passes.specs.Passing.{objects_among}
use Rattle.hprof_weak.specs.declared.row_sink.RowSink.{RowSink}
use Rattle.hprof_weak.proofs.RowsTaken.{all_taken, rows_of_objects}
use Rattle.hprof_weak.proofs.WeakPuts.{put_of_none, rows_when_all_put}
use Rattle.hprof_weak.proofs.WholeClasses.{classes_of_whole}
use Rattle.hprof_weak.proofs.rows.rows_over.Goals as goal

pub returns-then-is_empty-clause-rows : goal.returns-then-is_empty-clause-rows
returns-then-is_empty-clause-rows g c = λ all make.
    let ids = size_of c.args.heap.now in
    let facts = facts_of c.args.heap.now in
    let whole = g.met.O.Objects.whole c.args.objects.now ids facts all make in
    let are = classes_of_whole ids facts all whole c.args.classes c.requires in
    let put = c.in-Ok.ensures.put all (order_agrees all whole.ordered)
    (put_of_none all c.args.classes c.new-fields.result.items c.new-fields.ensures.items are) in
    rows_when_all_put ids all c.put_few.new.self c.put_few.new.fields.items put (c.is_empty.ensures.0 c.if-is_empty.true)

pub returns-in-Ok-pass-clause-rows : goal.returns-in-Ok-pass-clause-rows
returns-in-Ok-pass-clause-rows g c = λ all make.
    let ids = size_of c.args.heap.now in
    let facts = facts_of c.args.heap.now in
    let whole = g.met.O.Objects.whole c.args.objects.now ids facts all make in
    let agree = order_agrees all whole.ordered in
    let are = classes_of_whole ids facts all whole c.args.classes c.requires in
    let put = c.in-Ok.ensures.put all agree
    (put_of_none all c.args.classes c.new-fields.result.items c.new-fields.ensures.items are) in
    let begun : RowSink = record { left = c.put_few.new.self; fields = c.put_few.new.fields } in
    rows_of_objects all agree ids begun c.pass.new.sink
    (all_taken all agree ids (objects_among all) begun c.pass.new.sink (c.in-Ok-pass.ensures.given all make) put)
