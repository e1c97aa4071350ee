use Rattle.std.proofs.Common.{sym, subst}
use Rattle.hprof_items.specs.FactValue.{Instance}
use Rattle.hprof_heap.specs.declared.object_dump.ObjectDump.{ObjectDump}
use Rattle.hprof_heap.specs.ObjectDump.{fact_of_object}
use Rattle.hprof_edges.specs.Collecting.{PutBehind}
use Rattle.hprof_edges.specs.DumpEdges.{IsEdgeToClass, IsFieldEdge, IsObjectEdge}
use Rattle.hprof_edges.proofs.PutTogether.{put_both}
use Rattle.hprof_edges.proofs.of_object.object_edges.Goals as goal

pub returns-in_ok-field_edges-in-Instance-clause-holds : goal.returns-in_ok-field_edges-in-Instance-clause-holds
returns-in_ok-field_edges-in-Instance-clause-holds g c = λ facts edges knows held.
    let at = c.in-Instance in
    let after = g.C.Collect.holds c.field_edges.new.into in
    subst (λ (row : ObjectDump). PutBehind after edges (IsObjectEdge c.args.ids facts (fact_of_object row))) (sym at.is)
    (put_both edges (g.C.Collect.holds c.edge_to_class.new.into) after (IsEdgeToClass at.id at.class)
    (IsFieldEdge c.args.ids facts at.id at.class at.bytes.now)
    (IsObjectEdge c.args.ids facts (Instance at.id at.trace at.class at.bytes.now))
    (c.in_ok-edge_to_class-in-Instance.ensures.holds edges held)
    (λ longer held_more. c.in_ok-field_edges-in-Instance.ensures.holds facts longer knows held_more)
    (λ edge. (λ is. is, λ is. is)))

pub returns-in_ok-array_edges-in-ObjArray-clause-holds : goal.returns-in_ok-array_edges-in-ObjArray-clause-holds
returns-in_ok-array_edges-in-ObjArray-clause-holds g c = λ facts edges knows held.
    let after = g.C.Collect.holds c.array_edges.new.into in
    subst (λ (row : ObjectDump). PutBehind after edges (IsObjectEdge c.args.ids facts (fact_of_object row))) (sym c.in-ObjArray.is)
    (c.in_ok-array_edges-in-ObjArray.ensures.holds edges held)
