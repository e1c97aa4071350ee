-- Edges that are put into a set.
use Rattle.std.specs.Prelude.{◌↔◌}
use Rattle.std.proofs.Common.{◌≡◌, true, false, List, [], ◌∷◌, ◌++◌, Contains, sym, ap, subst, ◌∙◌, inl, inr}
use Rattle.std.proofs.lemmas.List.Elements.{Contains-append_left, Contains-push, Contains-push_cases}
use Rattle.hprof_edges.specs.declared.edge.Edge.{Edge}
use Rattle.hprof_layouts.specs.declared.reference.Wanted.{Wanted}
use Rattle.hprof_edges.specs.Collecting.{is_edge_wanted}
use Rattle.hprof_edges.specs.declared.edge_set.EdgeSet.{EdgeSet}
use Rattle.hprof_edges.specs.EdgeSet.{SetOf, edges_in, wanted_in}

module _ (set other : EdgeSet) (edge : Edge) (same : wanted_in other ≡ wanted_in set) where
  wants_still : (one : Edge) → is_edge_wanted (wanted_in set) one ≡ true → is_edge_wanted (wanted_in other) one ≡ true
  wants_still one e = ap (λ (w : Wanted). is_edge_wanted w one) same ∙ e

  wanted_before : (one : Edge) → is_edge_wanted (wanted_in other) one ≡ true → is_edge_wanted (wanted_in set) one ≡ true
  wanted_before one e = sym (ap (λ (w : Wanted). is_edge_wanted w one) same) ∙ e

  -- an edge that is wanted
  pub set_more : is_edge_wanted (wanted_in set) edge ≡ true → edges_in other ≡ edges_in set ++ edge ∷ [] → (edges : List Edge)
      → SetOf set edges → SetOf other (edges ++ edge ∷ [])
  set_more wanted more edges of one = (
    λ there. elim (Contains-push_cases (edges_in set) edge one (subst (λ (l : List Edge). Contains l one) more there)) [
      | inl was ↦
          let both = (of one).0 was in
          (Contains-append_left edges (edge ∷ []) one both.0, wants_still one both.1)
      | inr is ↦ (
        subst (Contains (edges ++ edge ∷ [])) is (Contains-push edges edge),
        wants_still one (subst (λ (e : Edge). is_edge_wanted (wanted_in set) e ≡ true) is wanted),
      )
    ],
    λ both. subst (λ (l : List Edge). Contains l one) (sym more) (elim (Contains-push_cases edges edge one both.0) [
      | inl earlier ↦ Contains-append_left (edges_in set) (edge ∷ []) one ((of one).1 (earlier, wanted_before one both.1))
      | inr is ↦ subst (Contains (edges_in set ++ edge ∷ [])) is (Contains-push (edges_in set) edge)
    ]),
  )

  -- one that is not
  pub set_same : is_edge_wanted (wanted_in set) edge ≡ false → edges_in other ≡ edges_in set → (edges : List Edge) → SetOf set edges
      → SetOf other (edges ++ edge ∷ [])
  set_same unwanted stays edges of one = (
    λ there.
        let both = (of one).0 (subst (λ (l : List Edge). Contains l one) stays there) in
        (Contains-append_left edges (edge ∷ []) one both.0, wants_still one both.1),
    λ both. elim (Contains-push_cases edges edge one both.0) [
      | inl earlier ↦ subst (λ (l : List Edge). Contains l one) (sym stays) ((of one).1 (earlier, wanted_before one both.1))
      | inr is ↦
          let yes = wanted_before one both.1 in
          let no : is_edge_wanted (wanted_in set) one ≡ false = subst (λ (e : Edge). is_edge_wanted (wanted_in set) e ≡ false)
          is unwanted in
          absurd cc
    ],
  )

-- the same edges, in another order or not as often
pub set_sorted : (set other : EdgeSet) → wanted_in other ≡ wanted_in set
    → ((edge : Edge) → Contains (edges_in other) edge ↔ Contains (edges_in set) edge) → (edges : List Edge) → SetOf set edges
    → SetOf other edges
set_sorted set other same sorted edges of edge = (
  λ there. (let both = (of edge).0 ((sorted edge).0 there) in (both.0, ap (λ (w : Wanted). is_edge_wanted w edge) same ∙ both.1)),
  λ both. (sorted edge).1 ((of edge).1 (both.0, sym (ap (λ (w : Wanted). is_edge_wanted w edge) same) ∙ both.1)),
)
