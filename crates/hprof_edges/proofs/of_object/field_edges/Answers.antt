use Rattle.std.proofs.Common.{◌≡◌, ◌++◌, Bool, false, ap, ◌∙◌}
use Rattle.hprof_layouts.specs.References.{is_wanted}
use Rattle.hprof_edges.specs.declared.edge.Edge.{Edge}
use Rattle.hprof_edges.specs.DumpEdges.{IsFieldEdge}
use Rattle.hprof_edges.specs.EdgeLists.{reference_edges}
use Rattle.hprof_edges.proofs.ObjectDumpEdges.{by_references}
use Rattle.hprof_edges.proofs.PutTogether.{put_nothing}
use Rattle.hprof_edges.proofs.WantedEdges.{kept_alike}
use Rattle.hprof_edges.proofs.of_object.field_edges.Goals as goal

pub returns-clause-holds : goal.returns-clause-holds
returns-clause-holds g c = λ facts edges knows held.
    let instance = c.args.instance in
    let references = c.deref.result.now in
    let new = c.put_references.new.into in
    let are = c.in_ok-set_references.ensures.wanted facts knows in
    let only : (edge : Edge) → is_wanted c.wanted.result edge.to ≡ false → g.C.Collect.keeps new edge ≡ false =
    λ edge unwanted. ap (λ (keeps : Edge → Bool). keeps edge) c.in_ok-put_references.ensures.keeps ∙ c.wanted.ensures edge unwanted in
    record {
      more = reference_edges instance are.all;
      holds_more = g.C.Collect.same_kept new (edges ++ reference_edges instance references)
          (edges ++ reference_edges instance are.all)
          (kept_alike (g.C.Collect.keeps new) c.wanted.result only instance edges are.all references
          (c.deref.ensures.value ∙ are.wanted_are))
          (c.in_ok-put_references.ensures.holds edges held);
      exact = by_references c.args.ids facts instance c.args.class c.args.bytes.now are.all are.all_are;
    }

-- the class has no known layout, so there are no such edges
pub returns-then-not-branch-clause-holds : goal.returns-then-not-branch-clause-holds
returns-then-not-branch-clause-holds g c = λ facts edges knows held.
    put_nothing edges (g.C.Collect.holds c.args.into.now) (IsFieldEdge c.args.ids facts c.args.instance c.args.class c.args.bytes.now) held
    (λ edge is.
    let laid = (c.in_ok-set_references.ensures.known c.args.ids facts knows).1
    (is.reference.values_are.slots, is.reference.values_are.known) in
    let unlaid = c.if-not-branch.true in
    absurd cc)
