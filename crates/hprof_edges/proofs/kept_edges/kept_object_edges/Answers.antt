use Rattle.std.proofs.Common.{◌≡◌, false, length, sym, subst, ◌∙◌}
use Rattle.std.proofs.lemmas.Bool.{eqb-true}
use Rattle.std.proofs.lemmas.List.{nil_from_length}
use Rattle.hprof_heap.specs.declared.object_dump.ObjectDump.{ObjectDump}
use Rattle.hprof_heap.specs.ObjectDump.{fact_of_object}
use Rattle.hprof_edges.specs.declared.edge.Edge.{Edge}
use Rattle.hprof_edges.specs.Collecting.{PutBehind}
use Rattle.hprof_edges.specs.DumpEdges.{IsEdgeToClass, IsFieldEdge, IsObjectEdge}
use Rattle.hprof_edges.specs.LeftOut.{IsLeftOutOf, fields_in, has_place}
use Rattle.hprof_edges.proofs.LeftOutEdges.{all_stay, instance_kept}
use Rattle.hprof_edges.proofs.PutTogether.{put_both}
use Rattle.hprof_edges.proofs.kept_edges.kept_object_edges.Goals as goal

pub returns-then-is_empty-clause-holds : goal.returns-then-is_empty-clause-holds
returns-then-is_empty-clause-holds g c = λ facts edges knows held.
    let at = c.in-Instance in
    let table = fields_in c.args.left_out.now in
    let ids = c.args.ids in
    let after = g.C.Collect.holds c.field_edges.new.into in
    let fields = c.of-fields.result.now in
    let none = nil_from_length fields (eqb-true (length fields) 0 (sym c.is_empty.ensures ∙ c.if-is_empty.true)) in
    subst (λ (row : ObjectDump). PutBehind after edges (λ edge. IsObjectEdge ids facts (fact_of_object row) edge
    × ¬ IsLeftOutOf table (fact_of_object row) edge)) (sym at.is)
    (put_both edges (g.C.Collect.holds c.edge_to_class.new.into) after (IsEdgeToClass at.id at.class)
    (IsFieldEdge ids facts at.id at.class at.bytes.now) _ (c.in_ok-edge_to_class.ensures.holds edges held)
    (λ longer held_more. c.in_ok-field_edges.ensures.holds facts longer knows held_more)
    (λ edge. all_stay ids facts table fields at.id at.trace at.class at.bytes.now edge c.of-fields.ensures.exact none))

pub returns-clause-holds : goal.returns-clause-holds
returns-clause-holds g c = λ facts edges knows held.
    let at = c.in-Instance in
    let table = fields_in c.args.left_out.now in
    let ids = c.args.ids in
    let after = g.C.Collect.holds c.kept_field_edges.new.into in
    let fields = c.of-fields.result.now in
    subst (λ (row : ObjectDump). PutBehind after edges (λ edge. IsObjectEdge ids facts (fact_of_object row) edge
    × ¬ IsLeftOutOf table (fact_of_object row) edge)) (sym at.is)
    (put_both edges (g.C.Collect.holds c.edge_to_class.new.into) after (IsEdgeToClass at.id at.class)
    (λ (edge : Edge). IsFieldEdge ids facts at.id at.class at.bytes.now edge × (has_place fields edge.position ≡ false)) _
    (c.in_ok-edge_to_class.ensures.holds edges held)
    (λ longer held_more. c.in_ok-kept_field_edges.ensures.holds facts longer knows held_more)
    (λ edge. instance_kept ids facts table fields at.id at.trace at.class at.bytes.now edge c.of-fields.ensures.exact))
