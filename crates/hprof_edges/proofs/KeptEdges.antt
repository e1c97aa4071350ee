-- The edges that a set has, in order.
use Rattle.std.specs.Prelude.{◌↔◌}
use Rattle.std.specs.List.Sorted.{IsStrictlySortedBy}
use Rattle.std.proofs.Common.{◌≡◌, ℕ, Bool, true, List, [], Contains, refl, sym, ap, subst, ◌∙◌}
use Rattle.std.proofs.lemmas.Bool.{eq-eqb, eqb-true}
use Rattle.hprof_values.specs.declared.ids.IdSize.{IdSize}
use Rattle.hprof_items.specs.FactValue.{FactValue}
use Rattle.hprof_edges.specs.declared.edge.Edge.{Edge}
use Rattle.hprof_edges.specs.declared.edge_set.EdgeSet.{EdgeSet}
use Rattle.hprof_layouts.specs.declared.reference.Wanted.{Wanted}
use Rattle.hprof_layouts.specs.declared.reference.Wanted.TheVariants as wanted
use Rattle.hprof_edges.specs.contracts.edge.EdgeOrd.TheImpl as edge_ord
use Rattle.hprof_edges.specs.Collecting.{PutBehind, is_edge_wanted}
use Rattle.hprof_edges.specs.EdgeSet.{SetOf, edges_in, wanted_in}
use Rattle.hprof_edges.specs.Edges.{AreEdgesFrom, AreReferrers, IsEdge}
use Rattle.hprof_edges.proofs.PutTogether.{nothing_there}

-- a set to which those were put of which that holds has those of them that it keeps
set_has : (set : EdgeSet) (which : Wanted) (P : Edge → Type 0) → PutBehind (SetOf set) [] P
    → is_edge_wanted (wanted_in set) ≡ is_edge_wanted which
    → (edge : Edge) → Contains (edges_in set) edge ↔ (P edge × (is_edge_wanted which edge ≡ true))
set_has set which P put keeps edge =
    let are = put.holds_more edge in
    let wants = ap (λ (test : Edge → Bool). test edge) keeps in (
      λ there. (let both = are.0 there in ((put.exact edge).0 both.0, sym wants ∙ both.1)),
      λ both. are.1 ((put.exact edge).1 both.0, wants ∙ both.1),
    )

module _ (ids : IdSize) (facts : List FactValue) (id : ℕ) (set : EdgeSet) (sorted : List Edge)
    (ascend : IsStrictlySortedBy (edge_ord.ghosts).cmp sorted)
    (same : (edge : Edge) → Contains sorted edge ↔ Contains (edges_in set) edge) where
  -- all edges from there were put
  pub edges_from : (P : Edge → Type 0) → PutBehind (SetOf set) [] P → is_edge_wanted (wanted_in set) ≡ is_edge_wanted wanted.All
      → ((edge : Edge) → P edge ↔ (IsEdge ids facts edge × (edge.from ≡ id))) → AreEdgesFrom ids facts id sorted
  edges_from P put keeps are = record {
    ascend = ascend;
    exact = λ edge. (
      λ there. (are edge).0 ((set_has set wanted.All P put keeps edge).0 ((same edge).0 there)).0,
      λ is. (same edge).1 ((set_has set wanted.All P put keeps edge).1 ((are edge).1 is, refl)),
    );
  }

  -- all edges were put, and those to there are kept
  pub edges_to : PutBehind (SetOf set) [] (IsEdge ids facts) → is_edge_wanted (wanted_in set) ≡ is_edge_wanted (wanted.To id)
      → AreReferrers ids facts id sorted
  edges_to put keeps = record {
    ascend = ascend;
    exact = λ edge. (
      λ there. (
          let has = (set_has set (wanted.To id) (IsEdge ids facts) put keeps edge).0 ((same edge).0 there) in
          (has.0, eqb-true edge.to id has.1)
          ),
      λ is. (same edge).1 ((set_has set (wanted.To id) (IsEdge ids facts) put keeps edge).1 (is.0, eq-eqb edge.to id is.1)),
    );
  }

nothing_sorted : IsStrictlySortedBy (edge_ord.ghosts).cmp []
unfolding IsStrictlySortedBy
nothing_sorted = tt

-- nothing refers to 0
pub none_to_zero : (ids : IdSize) (facts : List FactValue) (id : ℕ) (edges : List Edge) → id ≡ 0 → edges ≡ []
    → AreReferrers ids facts id edges
none_to_zero ids facts id edges zero_is none = subst (AreReferrers ids facts id) (sym none) (record {
  ascend = nothing_sorted;
  exact = λ edge. (λ there. absurd (nothing_there edge there), λ is. absurd (is.0.0 (is.1 ∙ zero_is)));
})
