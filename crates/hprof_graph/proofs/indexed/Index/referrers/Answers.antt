use Rattle.std.specs.Prelude.{◌↔◌}
use Rattle.std.proofs.Common.{◌≡◌, List, Contains, subst, sym}
use Rattle.hprof_edges.specs.declared.edge.Edge.{Edge}
use Rattle.hprof_graph.specs.ByTarget.{IsByTarget}
use Rattle.hprof_graph.proofs.KeptReferrers.{indexed_are, indexed_kept}
use Rattle.hprof_graph.proofs.indexed.Index.referrers.Goals as goal

pub returns-clause-kept : goal.returns-clause-kept
returns-clause-kept c = λ ids facts keeps is.
    let lent = subst IsByTarget (sym c.deref.ensures.value) is.sorted in
    indexed_kept ids facts c.args.id keeps c.args.self.now is c.edges_to.result.now (c.edges_to.ensures.ascend lent)
    (λ edge. subst (λ (l : List Edge). Contains c.edges_to.result.now edge ↔ (Contains l edge × (edge.to ≡ c.args.id)))
    c.deref.ensures.value (c.edges_to.ensures.exact lent edge))

pub returns-clause-value : goal.returns-clause-value
returns-clause-value c = λ ids facts is.
    let lent = subst IsByTarget (sym c.deref.ensures.value) is.sorted in
    indexed_are ids facts c.args.id c.args.self.now is c.edges_to.result.now (c.edges_to.ensures.ascend lent)
    (λ edge. subst (λ (l : List Edge). Contains c.edges_to.result.now edge ↔ (Contains l edge × (edge.to ≡ c.args.id)))
    c.deref.ensures.value (c.edges_to.ensures.exact lent edge))
