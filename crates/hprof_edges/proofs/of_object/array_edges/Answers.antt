use Rattle.hprof_values.specs.Lists.{identifiers_of}
use Rattle.hprof_edges.specs.declared.edge.Via.TheVariants as vias
use Rattle.hprof_edges.specs.DumpEdges.{IsEdgeToClass, IsElementEdge}
use Rattle.hprof_edges.specs.EdgeLists.{numbered}
use Rattle.hprof_edges.proofs.ObjectDumpEdges.{by_elements}
use Rattle.hprof_edges.proofs.PutTogether.{put_both}
use Rattle.hprof_edges.proofs.of_object.array_edges.Goals as goal

pub returns-clause-holds : goal.returns-clause-holds
returns-clause-holds g c = λ edges held.
    let elements = identifiers_of c.args.elements in
    put_both edges (g.C.Collect.holds c.edge_to_class.new.into) (g.C.Collect.holds c.put_elements.new.into)
    (IsEdgeToClass c.args.array c.args.class) (IsElementEdge c.args.array elements) _ (c.in_ok-edge_to_class.ensures.holds edges held)
    (λ longer held_more. record {
      more = numbered c.args.array vias.Element 0 elements;
      holds_more = c.in_ok-put_elements.ensures.holds longer held_more;
      exact = by_elements c.args.array elements;
    })
    (λ edge. (λ is. is, λ is. is))
