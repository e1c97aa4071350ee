-- The targets of edges that were put are what the edges lead to.
use Rattle.std.specs.Prelude.{◌↔◌, map}
use Rattle.std.proofs.Common.{◌≡◌, ◌⊎◌, ℕ, List, [], ◌∷◌, ◌++◌, Contains, refl, sym, ap, subst, inl, inr, arith}
use Rattle.std.proofs.lemmas.List.Elements.{Contains-append_cases, Contains-append_left, Contains-append_right, Contains-push}
use Rattle.hprof_values.specs.declared.ids.IdSize.{IdSize}
use Rattle.hprof_items.specs.FactValue.{FactValue}
use Rattle.hprof_edges.specs.declared.edge.Edge.{Edge}
use Rattle.hprof_edges.specs.declared.edge.Via.TheVariants as vias
use Rattle.hprof_edges.specs.Collecting.{PutBehind}
use Rattle.hprof_edges.specs.Edges.{IsEdge}
use Rattle.hprof_edges.proofs.EdgeMembers.{one_there}
use Rattle.hprof_reach.specs.Reaching.{LeadsBy}

-- one of the edges leads there
abbrev IsTarget : List Edge → ℕ → Type 0
IsTarget edges to = (edge : Edge) × Contains edges edge × (edge.to ≡ to)

is_target : (edges : List Edge) (to : ℕ) → Contains (map (λ (edge : Edge). edge.to) edges) to → IsTarget edges to
is_target [] to has = absurd (omega (arith, has.1))
is_target (edge ∷ edges) to has = elim (Contains-append_cases (edge.to ∷ []) (map (λ (e : Edge). e.to) edges) to has) [
  | inl here ↦ (edge, Contains-append_left (edge ∷ []) edges edge (Contains-push [] edge), one_there edge.to to here)
  | inr later ↦ let is = is_target edges to later in (is.0, Contains-append_right (edge ∷ []) edges is.0 is.1, is.2)
]

from_target : (edges : List Edge) (edge : Edge) → Contains edges edge → Contains (map (λ (e : Edge). e.to) edges) edge.to
from_target [] edge has = absurd (omega (arith, has.1))
from_target (first ∷ edges) edge has = elim (Contains-append_cases (first ∷ []) edges edge has) [
  | inl here ↦ subst (λ (e : Edge). Contains (first.to ∷ map (λ (e : Edge). e.to) edges) e.to) (one_there first edge here)
      (Contains-append_left (first.to ∷ []) (map (λ (e : Edge). e.to) edges) first.to (Contains-push [] first.to))
  | inr later ↦ Contains-append_right (first.to ∷ []) (map (λ (e : Edge). e.to) edges) edge.to (from_target edges edge later)
]

-- an edge to an identifier, whichever
abbrev edge_to : ℕ → Edge
edge_to to = record { from = 0; via = vias.Class; position = 0; to = to }

edges_to : (targets : List ℕ) → targets ≡ map (λ (edge : Edge). edge.to) (map edge_to targets)
edges_to [] = refl
edges_to (to ∷ targets) = ap (λ (l : List ℕ). to ∷ l) (edges_to targets)

-- behind some targets stand those of the edges that were put
pub put_behind : (P : Edge → Type 0) (old new : List ℕ)
    → ((edges : List Edge) → old ≡ map (λ (edge : Edge). edge.to) edges
    → PutBehind (λ edges. new ≡ map (λ (edge : Edge). edge.to) edges) edges P)
    → (to : ℕ) → Contains new to ↔ (Contains old to ⊎ ((edge : Edge) × P edge × (edge.to ≡ to)))
put_behind P old new put to = (there, back) where
  edges : List Edge
  edges = map edge_to old

  did : PutBehind (λ edges. new ≡ map (λ (edge : Edge). edge.to) edges) edges P
  did = put edges (edges_to old)

  one_of : (list : List Edge) (edge : Edge) → Contains list edge → edge.to ≡ to → Contains (map (λ (e : Edge). e.to) list) to
  one_of list edge has is = subst (λ (n : ℕ). Contains (map (λ (e : Edge). e.to) list) n) is (from_target list edge has)

  there : Contains new to → Contains old to ⊎ ((edge : Edge) × P edge × (edge.to ≡ to))
  there has =
      let target = is_target (edges ++ did.more) to (subst (λ (l : List ℕ). Contains l to) did.holds_more has) in
      elim (Contains-append_cases edges did.more target.0 target.1) [
        | inl front ↦ inl (subst (λ (l : List ℕ). Contains l to) (sym (edges_to old)) (one_of edges target.0 front target.2))
        | inr more ↦ inr (target.0, (did.exact target.0).0 more, target.2)
      ]

  back : Contains old to ⊎ ((edge : Edge) × P edge × (edge.to ≡ to)) → Contains new to
  back (inl has) =
      let target = is_target edges to (subst (λ (l : List ℕ). Contains l to) (edges_to old) has) in
      subst (λ (l : List ℕ). Contains l to) (sym did.holds_more)
      (one_of (edges ++ did.more) target.0 (Contains-append_left edges did.more target.0 target.1) target.2)
  back (inr it) =
      subst (λ (l : List ℕ). Contains l to) (sym did.holds_more)
      (one_of (edges ++ did.more) it.0 (Contains-append_right edges did.more it.0 ((did.exact it.0).1 it.1)) it.2)

-- the targets of all edges from an identifier of which that holds
pub led_to : (P : Edge → Type 0) (ids : IdSize) (facts : List FactValue) (from : ℕ) (edges : List Edge) (targets : List ℕ)
    → targets ≡ map (λ (edge : Edge). edge.to) edges
    → ((edge : Edge) → Contains edges edge ↔ (IsEdge ids facts edge × (edge.from ≡ from) × P edge))
    → (to : ℕ) → Contains targets to ↔ LeadsBy P ids facts from to
led_to P ids facts from edges targets are exact to = (there, back) where
  there : Contains targets to → LeadsBy P ids facts from to
  there has =
      let target = is_target edges to (subst (λ (l : List ℕ). Contains l to) are has) in
      let edge = target.0 in
      let is = (exact edge).0 target.1 in
      let same : edge ≡ record { from = from; via = edge.via; position = edge.position; to = to } =
      λ i. record { from = is.1 i; via = edge.via; position = edge.position; to = target.2 i } in
      record {
        via = edge.via;
        position = edge.position;
        edge = subst (IsEdge ids facts) same is.0;
        holds = subst P same is.2;
      }

  back : LeadsBy P ids facts from to → Contains targets to
  back leads =
      let edge : Edge = record { from = from; via = leads.via; position = leads.position; to = to } in
      subst (λ (l : List ℕ). Contains l to) (sym are) (from_target edges edge ((exact edge).1 (leads.edge, refl, leads.holds)))
