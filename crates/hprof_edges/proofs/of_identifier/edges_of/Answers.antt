use Rattle.std.proofs.Common.{◌≡◌, ◌⊎◌, ap, ◌∙◌}
use Rattle.hprof_heap.specs.HeapFacts.{facts_of, size_of}
use Rattle.hprof_edges.specs.declared.edge.Edge.{Edge}
use Rattle.hprof_edges.specs.Collecting.{is_edge_wanted}
use Rattle.hprof_edges.specs.EdgeSet.{SetOf}
use Rattle.hprof_edges.specs.DumpEdges.{GivenByClass, GivenByObject}
use Rattle.hprof_edges.proofs.KeptEdges.{edges_from}
use Rattle.hprof_edges.proofs.OnlyDumps.{from_dumps}
use Rattle.hprof_edges.proofs.PutTogether.{put_both}
use Rattle.hprof_edges.proofs.of_identifier.edges_of.Goals as goal

pub returns : goal.returns
returns c =
    let ids = size_of c.args.heap.now in
    let facts = facts_of c.args.heap.now in
    let id = c.args.id in
    edges_from ids facts id c.put_of_object.new.into c.sort_edges.new.edges.items c.sort_edges.ensures.ascend
    c.sort_edges.ensures.same
    (λ (edge : Edge). ((edge.from ≡ id) × GivenByClass facts edge) ⊎ ((edge.from ≡ id) × GivenByObject ids facts edge))
    (put_both _ (SetOf c.put_of_class.new.into) (SetOf c.put_of_object.new.into)
    (λ (edge : Edge). (edge.from ≡ id) × GivenByClass facts edge) (λ (edge : Edge). (edge.from ≡ id) × GivenByObject ids facts edge) _
    (c.in_ok-put_of_class.ensures.holds _ c.new-set.ensures.none)
    (λ longer held. c.in_ok-put_of_object.ensures.holds longer held) (λ edge. (λ is. is, λ is. is)))
    (c.in_ok-put_of_object.ensures.keeps ∙ c.in_ok-put_of_class.ensures.keeps ∙ ap is_edge_wanted c.new-set.ensures.wanted)
    (from_dumps ids facts id)
