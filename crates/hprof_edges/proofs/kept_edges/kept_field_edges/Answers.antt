use Rattle.std.proofs.Common.{◌≡◌, ◌++◌, Bool, false, List, ap, ◌∙◌}
use Rattle.hprof_layouts.specs.declared.reference.Reference.{Reference}
use Rattle.hprof_layouts.specs.References.{is_wanted, wanted_of}
use Rattle.hprof_edges.specs.declared.edge.Edge.{Edge}
use Rattle.hprof_edges.specs.EdgeLists.{reference_edges}
use Rattle.hprof_edges.proofs.LeftOutEdges.{by_kept, filters_either, cached_references, stays}
use Rattle.hprof_edges.proofs.WantedEdges.{kept_alike}
use Rattle.hprof_edges.proofs.kept_edges.kept_field_edges.Goals as goal

pub returns-clause-holds : goal.returns-clause-holds
returns-clause-holds g c = λ facts edges knows held.
    let instance = c.args.instance in
    let fields = c.args.fields.now in
    let references = c.deref.result.now in
    let new = c.put_references.new.into in
    let are = c.in_ok-set_references.ensures.wanted facts knows in
    let kept = cached_references fields are.all in
    let only : (edge : Edge) → is_wanted c.wanted.result edge.to ≡ false → g.C.Collect.keeps new edge ≡ false =
    λ edge unwanted. ap (λ (keeps : Edge → Bool). keeps edge) c.in_ok-put_references.ensures.keeps ∙ c.wanted.ensures edge unwanted in
    let wanted : references ≡ wanted_of c.wanted.result kept =
    c.deref.ensures.value ∙ c.leave_out.ensures ∙ ap (λ (l : List Reference). cached_references fields l) are.wanted_are
    ∙ filters_either (stays fields) (λ reference. is_wanted c.wanted.result reference.to) are.all in
    record {
      more = reference_edges instance kept;
      holds_more = g.C.Collect.same_kept new (edges ++ reference_edges instance references) (edges ++ reference_edges instance kept)
          (kept_alike (g.C.Collect.keeps new) c.wanted.result only instance edges kept references wanted)
          (c.in_ok-put_references.ensures.holds edges held);
      exact = by_kept c.args.ids facts instance c.args.class c.args.bytes.now fields are.all are.all_are;
    }
