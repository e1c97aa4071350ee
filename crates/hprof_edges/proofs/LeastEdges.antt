-- The least of the edges that were put.
use Rattle.std.specs.Prelude.{◌↔◌, ◌≢◌, IfSome}
use Rattle.std.proofs.Common.{◌≡◌, ◌⊎◌, ◌==◌, ℕ, Bool, true, false, List, [], ◌∷◌, ◌++◌, Option, Some, None, Contains, refl, sym, ap, subst}
use Rattle.std.proofs.Common.{◌∙◌, inl, inr}
use Rattle.std.specs.Ordering.{ordering_reverse}
use Rattle.std.specs.declared.cmp.Ordering.{Ordering}
use Rattle.std.specs.declared.cmp.Ordering.TheVariants.{Less, Equal, Greater}
use Rattle.std.proofs.lemmas.Bool.{both_ways, eq-eqb, eqb-true}
use Rattle.std.proofs.lemmas.List.Elements.{Contains-append_left, Contains-push, Contains-push_cases}
use Rattle.hprof_values.specs.declared.ids.IdSize.{IdSize}
use Rattle.hprof_items.specs.FactValue.{FactValue}
use Rattle.hprof_edges.specs.declared.edge.Edge.{Edge}
use Rattle.hprof_edges.specs.declared.least.LeastEdge.{LeastEdge}
use Rattle.hprof_edges.specs.contracts.edge.EdgeOrd.TheImpl as edge_ord
use Rattle.hprof_edges.specs.contracts.edge.EdgeOrd.TheImpl.Laws.{total-law}
use Rattle.hprof_edges.specs.Collecting.{PutBehind}
use Rattle.hprof_edges.specs.Edges.{AnyEdge, IsEdge}
use Rattle.hprof_edges.specs.LeastEdge.{IsEdgeBetween, IsLeastEdge, IsLeastEdgeBy, IsLeastOf, IsOneTo, KeepsLeast, leads_to}
use Rattle.hprof_edges.proofs.PutTogether.{nothing_there, put_same}

-- an edge does not come behind one that does not come behind a third
not_behind : (one other more : Edge) → (edge_ord.ghosts).cmp one other ≢ Greater → (edge_ord.ghosts).cmp other more ≢ Greater
    → (edge_ord.ghosts).cmp one more ≢ Greater
not_behind one other more first then behind = by_order ((edge_ord.ghosts).cmp one other) refl where
  by_order : (order : Ordering) → (edge_ord.ghosts).cmp one other ≡ order → ⊥
  by_order Less e =
      let back : (edge_ord.ghosts).cmp more one ≡ Less = total-law.antisymm more one ∙ ap ordering_reverse behind in
      let further = total-law.trans more one other back e in
      then (total-law.antisymm other more ∙ ap ordering_reverse further)
  by_order Equal e = then (sym (total-law.congr one other more e) ∙ behind)
  by_order Greater e = first e

-- numbers that are not equal are told apart
pub not_same : (n m : ℕ) → (n ≡ m → ⊥) → (n == m) ≡ false
not_same n m apart = by_test (n == m) refl where
  by_test : (b : Bool) → (n == m) ≡ b → b ≡ false
  by_test true e = absurd (apart (eqb-true n m e))
  by_test false e = refl

module _ (to : ℕ) (edges : List Edge) (edge : Edge) where
  -- ---- an edge that leads there

  -- it is one of the edges with the new one
  one_of_more : (first : Edge) (found : Option Edge) → (edge.to == to) ≡ true → (first ≡ edge) ⊎ (found ≡ Some first)
      → IsLeastOf (λ one. Contains edges one × ((one.to == to) ≡ true)) found
      → Contains (edges ++ edge ∷ []) first × ((first.to == to) ≡ true)
  one_of_more first (Some kept) leads (inl is) least =
      (subst (Contains (edges ++ edge ∷ [])) (sym is) (Contains-push edges edge), ap (λ (e : Edge). e.to == to) is ∙ leads)
  one_of_more first None leads (inl is) least =
      (subst (Contains (edges ++ edge ∷ [])) (sym is) (Contains-push edges edge), ap (λ (e : Edge). e.to == to) is ∙ leads)
  one_of_more first (Some kept) leads (inr is) least =
      let same : kept ≡ first = cc in (
        Contains-append_left edges (edge ∷ []) first (subst (Contains edges) same least.0.0),
        ap (λ (e : Edge). e.to == to) (sym same) ∙ least.0.1,
      )
  one_of_more first None leads (inr is) least = absurd cc

  -- none comes before it
  before_all : (first : Edge) (found : Option Edge) → (edge_ord.ghosts).cmp first edge ≢ Greater
      → IfSome found (λ kept. (edge_ord.ghosts).cmp first kept ≢ Greater)
      → IsLeastOf (λ one. Contains edges one × ((one.to == to) ≡ true)) found
      → (other : Edge) → Contains (edges ++ edge ∷ []) other → (other.to == to) ≡ true → (edge_ord.ghosts).cmp first other ≢ Greater
  before_all first (Some kept) new old least other has leads = elim (Contains-push_cases edges edge other has) [
    | inl was ↦ not_behind first kept other old (least.1 other (was, leads))
    | inr is ↦ subst (λ (e : Edge). (edge_ord.ghosts).cmp first e ≢ Greater) is new
  ]
  before_all first None new old least other has leads = elim (Contains-push_cases edges edge other has) [
    | inl was ↦ absurd (least other (was, leads))
    | inr is ↦ subst (λ (e : Edge). (edge_ord.ghosts).cmp first e ≢ Greater) is new
  ]

  pub keeps_first : (first : Edge) (found : Option Edge) → (edge.to == to) ≡ true → (first ≡ edge) ⊎ (found ≡ Some first)
      → (edge_ord.ghosts).cmp first edge ≢ Greater → IfSome found (λ kept. (edge_ord.ghosts).cmp first kept ≢ Greater)
      → KeepsLeast (record { to = to; edge = found }) edges → KeepsLeast (record { to = to; edge = Some first }) (edges ++ edge ∷ [])
  keeps_first first found leads one new old least =
      (one_of_more first found leads one least, λ other has. before_all first found new old least other has.0 has.1)

  -- ---- one that does not

  pub keeps_same : (found : Option Edge) → (edge.to == to) ≡ false → KeepsLeast (record { to = to; edge = found }) edges
      → KeepsLeast (record { to = to; edge = found }) (edges ++ edge ∷ [])
  keeps_same (Some kept) not_there least = (
    (Contains-append_left edges (edge ∷ []) kept least.0.0, least.0.1),
    λ other has. elim (Contains-push_cases edges edge other has.0) [
      | inl was ↦ least.1 other (was, has.1)
      | inr is ↦ absurd (both_ways (edge.to == to) not_there (ap (λ (e : Edge). e.to == to) is ∙ has.1))
    ],
  )
  keeps_same None not_there none = λ other has. elim (Contains-push_cases edges edge other has.0) [
    | inl was ↦ none other (was, has.1)
    | inr is ↦ absurd (both_ways (edge.to == to) not_there (ap (λ (e : Edge). e.to == to) is ∙ has.1))
  ]

-- ---- all edges from an identifier

-- before the first there is none
pub keeps_none : (to : ℕ) → KeepsLeast (record { to = to; edge = None }) []
keeps_none to edge has = nothing_there edge has.0

-- the least of those of which one thing holds is the least of those of which the same holds in other words
least_same : (P Q : Edge → Type 0) (found : Option Edge) → ((edge : Edge) → P edge ↔ Q edge) → IsLeastOf P found → IsLeastOf Q found
least_same P Q (Some edge) are least = ((are edge).0 least.0, λ other has. least.1 other ((are other).1 has))
least_same P Q None are none = λ edge has. none edge ((are edge).1 has)

pub least_by : (P : Edge → Type 0) (ids : IdSize) (facts : List FactValue) (from to : ℕ) (least : LeastEdge)
    → PutBehind (KeepsLeast least) [] (λ edge. IsEdge ids facts edge × (edge.from ≡ from) × P edge)
    → leads_to least ≡ leads_to (record { to = to; edge = None }) → IsLeastEdgeBy P ids facts from to least.edge
least_by P ids facts from to least put keeps =
    least_same (IsOneTo least put.more) (IsEdgeBetween P ids facts from to) least.edge (λ edge.
    let same = ap (λ (test : Edge → Bool). test edge) keeps in (
      λ one. (
          let is = (put.exact edge).0 one.0 in
          record { edge_is = is.0; from_is = is.1; to_is = eqb-true edge.to to (sym same ∙ one.1); holds = is.2 }
          ),
      λ is. ((put.exact edge).1 (is.edge_is, is.from_is, is.holds), same ∙ eq-eqb edge.to to is.to_is),
    )) put.holds_more

pub least_between : (ids : IdSize) (facts : List FactValue) (from to : ℕ) (least : LeastEdge)
    → PutBehind (KeepsLeast least) [] (λ edge. IsEdge ids facts edge × (edge.from ≡ from))
    → leads_to least ≡ leads_to (record { to = to; edge = None }) → IsLeastEdge ids facts from to least.edge
least_between ids facts from to least put keeps =
    least_by AnyEdge ids facts from to least
    (put_same [] (KeepsLeast least) (λ edge. IsEdge ids facts edge × (edge.from ≡ from)) _ put
    (λ edge. (λ is. (is.0, is.1), λ is. (is.0, is.1, tt)))) keeps

-- where two things hold of the same edges of the facts, the least edge is the same
pub least_of_same : (P Q : Edge → Type 0) (ids : IdSize) (facts : List FactValue)
    → ((edge : Edge) → IsEdge ids facts edge → P edge ↔ Q edge) → (from to : ℕ) (found : Option Edge)
    → IsLeastEdgeBy P ids facts from to found → IsLeastEdgeBy Q ids facts from to found
least_of_same P Q ids facts same from to found =
    least_same (IsEdgeBetween P ids facts from to) (IsEdgeBetween Q ids facts from to) found (λ edge. (
      λ is. record { edge_is = is.edge_is; from_is = is.from_is; to_is = is.to_is; holds = (same edge is.edge_is).0 is.holds },
      λ is. record { edge_is = is.edge_is; from_is = is.from_is; to_is = is.to_is; holds = (same edge is.edge_is).1 is.holds },
    ))
