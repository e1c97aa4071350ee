use Rattle.std.proofs.Common.{◌⊎◌, subst}
use Rattle.hprof_items.specs.FactValue.{Instance, ObjArray, PrimArray}
use Rattle.hprof_values.specs.Lists.{identifiers_of}
use Rattle.hprof_heap.specs.declared.object_dump.ObjectDump.{ObjectDump}
use Rattle.hprof_heap.specs.HeapFacts.{facts_of, size_of}
use Rattle.hprof_heap.specs.ObjectDump.{fact_of_object}
use Rattle.hprof_heap.proofs.ObjectFacts.{IsOnlyObject}
use Rattle.hprof_edges.specs.declared.edge.Edge.{Edge}
use Rattle.hprof_edges.specs.DumpEdges.{GivenByInstance, IsEdgeToClass, IsElementEdge}
use Rattle.hprof_edges.proofs.OnlyDumps.{by_array, by_instance, by_no_object, by_numbers}
use Rattle.hprof_edges.proofs.PutTogether.{put_both, put_nothing, put_same}
use Rattle.hprof_edges.proofs.of_identifier.put_of_object.Goals as goal

pub returns-in-None-clause-holds : goal.returns-in-None-clause-holds
returns-in-None-clause-holds g c = λ edges held.
    put_nothing edges (g.C.Collect.holds c.args.into.now) _ held
    (by_no_object (size_of c.args.heap.now) (facts_of c.args.heap.now) c.args.id c.in-None.ensures.none)

pub returns-in_ok-put_of_fields-in-Some-Instance-clause-holds : goal.returns-in_ok-put_of_fields-in-Some-Instance-clause-holds
returns-in_ok-put_of_fields-in-Some-Instance-clause-holds g c = λ edges held.
    let ids = size_of c.args.heap.now in
    let facts = facts_of c.args.heap.now in
    let object = c.args.id in
    let at = c.in-Some-Instance in
    let only : IsOnlyObject facts object (Instance at.field-0-0 at.field-0-1 at.class at.field-0-3.now) =
    subst (λ (row : ObjectDump). IsOnlyObject facts object (fact_of_object row)) at.field-0-is
    (record { has = at.ensures.found; id = at.ensures.id; only = at.ensures.only }) in
    let after = g.C.Collect.holds c.put_of_fields.new.into in
    put_same edges after (λ (edge : Edge). IsEdgeToClass object at.class edge ⊎ GivenByInstance ids facts object edge) _
    (put_both edges (g.C.Collect.holds c.edge_to_class.new.into) after (IsEdgeToClass object at.class) (GivenByInstance ids facts object) _
    (c.in_ok-edge_to_class-in-Some-Instance.ensures.holds edges held)
    (λ longer held_more. c.in_ok-put_of_fields-in-Some-Instance.ensures.holds longer held_more) (λ edge. (λ is. is, λ is. is)))
    (by_instance ids facts object at.field-0-0 at.field-0-1 at.class at.field-0-3.now only)

pub returns-in_ok-array_edges-in-Some-ObjArray-clause-holds : goal.returns-in_ok-array_edges-in-Some-ObjArray-clause-holds
returns-in_ok-array_edges-in-Some-ObjArray-clause-holds g c = λ edges held.
    let ids = size_of c.args.heap.now in
    let facts = facts_of c.args.heap.now in
    let object = c.args.id in
    let at = c.in-Some-ObjArray in
    let elements = identifiers_of at.elements in
    let only : IsOnlyObject facts object (ObjArray at.field-0-0 at.field-0-1 at.class elements) =
    subst (λ (row : ObjectDump). IsOnlyObject facts object (fact_of_object row)) at.field-0-is
    (record { has = at.ensures.found; id = at.ensures.id; only = at.ensures.only }) in
    put_same edges (g.C.Collect.holds c.array_edges.new.into)
    (λ (edge : Edge). IsEdgeToClass object at.class edge ⊎ IsElementEdge object elements edge) _
    (c.in_ok-array_edges-in-Some-ObjArray.ensures.holds edges held)
    (by_array ids facts object at.field-0-0 at.field-0-1 at.class elements only)

pub returns-in-Some-PrimArray-clause-holds : goal.returns-in-Some-PrimArray-clause-holds
returns-in-Some-PrimArray-clause-holds g c = λ edges held.
    let ids = size_of c.args.heap.now in
    let facts = facts_of c.args.heap.now in
    let object = c.args.id in
    let at = c.in-Some-PrimArray in
    let only : IsOnlyObject facts object (PrimArray at.field-0-0 at.field-0-1 at.field-0-2 at.field-0-3.now) =
    subst (λ (row : ObjectDump). IsOnlyObject facts object (fact_of_object row)) at.field-0-is
    (record { has = at.ensures.found; id = at.ensures.id; only = at.ensures.only }) in
    put_nothing edges (g.C.Collect.holds c.args.into.now) _ held
    (by_numbers ids facts object at.field-0-0 at.field-0-1 at.field-0-2 at.field-0-3.now only)
