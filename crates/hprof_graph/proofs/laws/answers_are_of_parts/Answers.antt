use Rattle.std.proofs.Common.{◌≡◌, ℕ, true, Bor, List}
use Rattle.hprof_layouts.specs.declared.slot.Layout.{Layout}
use Rattle.hprof_layouts.specs.Layout.{IsLayout, layout_value}
use Rattle.hprof_edges.specs.declared.edge.Edge.{Edge}
use Rattle.hprof_edges.specs.Edges.{AreEdges, AreReferrers}
use Rattle.hprof_graph.specs.Derived.{CanBeLaid, CannotBeLaid}
use Rattle.hprof_graph.specs.Number.{IsNumberOf}
use Rattle.hprof_graph.proofs.OfParts.{edges_same, laid_same, layout_same, of_parts, outcome_tells, unlaid_same}
use Rattle.hprof_graph.proofs.laws.answers_are_of_parts.Goals as goal

pub returns-clause-told : goal.returns-clause-told
returns-clause-told c = outcome_tells

pub returns-clause-layout_now : goal.returns-clause-layout_now
returns-clause-layout_now c = λ class.
    of_parts (λ ids facts (layout : Layout). IsLayout facts class (layout_value layout))
    (λ ids facts others layout same is. layout_same facts others same class (layout_value layout) is)

pub returns-clause-cuts : goal.returns-clause-cuts
returns-clause-cuts c =
    of_parts (λ ids facts (number : ℕ). IsNumberOf (CanBeLaid facts) number)
    (λ ids facts others number same is. laid_same facts others same number is)

pub returns-clause-unresolved : goal.returns-clause-unresolved
returns-clause-unresolved c =
    of_parts (λ ids facts (number : ℕ). IsNumberOf (CannotBeLaid facts) number)
    (λ ids facts others number same is. unlaid_same facts others same number is)

pub returns-clause-referrers_now : goal.returns-clause-referrers_now
returns-clause-referrers_now c = λ id.
    of_parts (λ ids facts (edges : Bor (List Edge)). AreReferrers ids facts id edges.now)
    (λ ids facts others edges same are. edges_same facts others same ids (λ edge. edge.to ≡ id) edges.now are)

pub returns-clause-kept : goal.returns-clause-kept
returns-clause-kept c = λ id keeps.
    of_parts (λ ids facts (edges : Bor (List Edge)). AreEdges ids facts (λ edge. (edge.to ≡ id) × (keeps edge ≡ true)) edges.now)
    (λ ids facts others edges same are.
    edges_same facts others same ids (λ edge. (edge.to ≡ id) × (keeps edge ≡ true)) edges.now are)
