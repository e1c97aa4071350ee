use Rattle.hprof_rows.proofs.Order.{order_agrees}
use Rattle.hprof_heap.specs.HeapFacts.{facts_of, size_of}
use Rattle.hprof_edges.specs.LeftOut.{fields_in}
use Rattle.hprof_weak.proofs.WeakEdges.{weak_exactly}
use Rattle.hprof_weak.proofs.table.weak_fields_over.Goals as goal

pub returns-in-Ok-clause-weak : goal.returns-in-Ok-clause-weak
returns-in-Ok-clause-weak g c = λ all make edge is.
    let ids = size_of c.args.heap.now in
    let whole = g.met.O.Objects.whole c.args.objects.now ids (facts_of c.args.heap.now) all make in
    weak_exactly ids all (order_agrees all whole.ordered) c.in-Ok.fields.items (fields_in c.new.result)
    (c.in-Ok.ensures.rows all make) c.new.ensures edge is
