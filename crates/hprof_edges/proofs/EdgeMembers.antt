-- Which edges the lists have that are put.
use Rattle.std.specs.Prelude.{◌≢◌, slice_get}
use Rattle.std.proofs.Common.{◌≡◌, ℕ, zero, suc, ◌+◌, ◌==◌, Bool, true, false, cond, List, [], ◌∷◌, Contains, Some}
use Rattle.std.proofs.Common.{refl, sym, subst, inl, inr, arith}
use Rattle.std.proofs.lemmas.Bool.{eq-eqb, eqb-true}
use Rattle.std.proofs.lemmas.List.Elements.{Contains-append_cases, Contains-append_left, Contains-append_right, Contains-push}
use Rattle.std.proofs.lemmas.List.Elements.{Contains-push_cases}
use Rattle.hprof_layouts.specs.declared.reference.Reference.{Reference}
use Rattle.hprof_edges.specs.declared.edge.Via.{Via}
use Rattle.hprof_edges.specs.declared.edge.Via.TheVariants as vias
use Rattle.hprof_edges.specs.declared.edge.Edge.{Edge}
use Rattle.hprof_edges.specs.EdgeLists.{numbered, reference_edges, unless_zero}
use Rattle.hprof_edges.proofs.PutTogether.{nothing_there}

-- a list of one
pub one_there : {X : Type 0} (x y : X) → Contains (x ∷ []) y → x ≡ y
one_there x y there = elim (Contains-push_cases [] x y there) [ inl none ↦ absurd (nothing_there y none) | inr same ↦ same ]

-- ---- one edge

-- an edge that refers to something is that one
pub record IsOnly (one edge : Edge) : Type 0 where
  pub not_zero : one.to ≢ 0
  pub same : one ≡ edge

pub only_there : (one edge : Edge) → Contains (unless_zero one) edge → IsOnly one edge
only_there one edge = go (one.to == 0) refl where
  go : (t : Bool) → (one.to == 0) ≡ t → Contains (cond t [] (one ∷ [])) edge → IsOnly one edge
  go true e there = absurd (nothing_there edge there)
  go false e there = record {
    not_zero = λ zero_is. (let yes : (one.to == 0) ≡ true = eq-eqb one.to 0 zero_is in let no = e in absurd cc);
    same = one_there one edge there;
  }

pub there_once : (one : Edge) → one.to ≢ 0 → Contains (unless_zero one) one
there_once one not_zero = go (one.to == 0) refl where
  go : (t : Bool) → (one.to == 0) ≡ t → Contains (cond t [] (one ∷ [])) one
  go true e = absurd (not_zero (eqb-true one.to 0 e))
  go false e = Contains-push [] one

-- ---- by place

-- an edge to one of these, by its place
pub record IsNumbered (from : ℕ) (via : Via) (position : ℕ) (targets : List ℕ) (edge : Edge) : Type 0 where
  pub not_zero : edge.to ≢ 0
  pub from_is : edge.from ≡ from
  pub via_is : edge.via ≡ via
  pub at : ℕ
  pub position_is : edge.position ≡ position + at
  pub there : slice_get targets at ≡ Some edge.to

module _ (from : ℕ) (via : Via) where
  abbrev edge_to : ℕ → ℕ → Edge
  edge_to position to = record { from = from; via = via; position = position; to = to }

  here_numbered : (position to : ℕ) (targets : List ℕ) (edge : Edge) → IsOnly (edge_to position to) edge
      → IsNumbered from via position (to ∷ targets) edge
  here_numbered position to targets edge is = subst (IsNumbered from via position (to ∷ targets)) is.same (record {
    not_zero = is.not_zero;
    from_is = refl;
    via_is = refl;
    at = 0;
    position_is = omega arith;
    there = refl;
  })

  pub numbered_is : (position : ℕ) (targets : List ℕ) (edge : Edge) → Contains (numbered from via position targets) edge
      → IsNumbered from via position targets edge
  numbered_is position [] edge there = absurd (nothing_there edge there)
  numbered_is position (to ∷ targets) edge there =
      elim (Contains-append_cases (unless_zero (edge_to position to)) (numbered from via (position + 1) targets) edge there) [
        | inl here ↦ here_numbered position to targets edge (only_there (edge_to position to) edge here)
        | inr later ↦
            let is = numbered_is (position + 1) targets edge later in
            let places : edge.position ≡ position + suc is.at = let e = is.position_is in omega arith in
            record {
              not_zero = is.not_zero;
              from_is = is.from_is;
              via_is = is.via_is;
              at = suc is.at;
              position_is = places;
              there = is.there;
            }
      ]

  numbered_there : (position : ℕ) (targets : List ℕ) (at to : ℕ) → to ≢ 0 → slice_get targets at ≡ Some to
      → Contains (numbered from via position targets) (edge_to (position + at) to)
  numbered_there position [] at to not_zero there = absurd cc
  numbered_there position (first ∷ targets) zero to not_zero there =
      let same : first ≡ to = cc in
      let place : position ≡ position + 0 = omega arith in
      let rest = numbered from via (position + 1) targets in
      Contains-append_left (unless_zero (edge_to position first)) rest (edge_to (position + 0) to)
      (subst (λ (f : ℕ). Contains (unless_zero (edge_to position f)) (edge_to (position + 0) to)) (sym same)
      (subst (λ (p : ℕ). Contains (unless_zero (edge_to position to)) (edge_to p to)) place (there_once (edge_to position to) not_zero)))
  numbered_there position (first ∷ targets) (suc at) to not_zero there =
      let places : (position + 1) + at ≡ position + suc at = omega arith in
      Contains-append_right (unless_zero (edge_to position first)) (numbered from via (position + 1) targets)
      (edge_to (position + suc at) to)
      (subst (λ (p : ℕ). Contains (numbered from via (position + 1) targets) (edge_to p to)) places
      (numbered_there (position + 1) targets at to not_zero there))

  -- from the first place on
  pub is_numbered : (targets : List ℕ) (edge : Edge) → edge.to ≢ 0 → edge.from ≡ from → edge.via ≡ via
      → slice_get targets edge.position ≡ Some edge.to → Contains (numbered from via 0 targets) edge
  is_numbered targets edge not_zero from_is via_is there =
      let place : 0 + edge.position ≡ edge.position = omega arith in
      let same : edge_to (0 + edge.position) edge.to ≡ edge =
      λ i. record { from = sym from_is i; via = sym via_is i; position = place i; to = edge.to } in
      subst (Contains (numbered from via 0 targets)) same
      (numbered_there 0 targets edge.position edge.to not_zero there)

  pub at_position : (targets : List ℕ) (edge : Edge) (is : IsNumbered from via 0 targets edge)
      → slice_get targets edge.position ≡ Some edge.to
  at_position targets edge is =
      let place : is.at ≡ edge.position = let e = is.position_is in omega arith in
      subst (λ (at : ℕ). slice_get targets at ≡ Some edge.to) place is.there

-- ---- by references

-- an edge by one of these references
pub record IsReferred (from : ℕ) (references : List Reference) (edge : Edge) : Type 0 where
  pub not_zero : edge.to ≢ 0
  pub from_is : edge.from ≡ from
  pub via_is : edge.via ≡ vias.Field
  pub there : Contains references (record { place = edge.position; to = edge.to })

module _ (from : ℕ) where
  abbrev edge_by : Reference → Edge
  edge_by reference = record { from = from; via = vias.Field; position = reference.place; to = reference.to }

  pub referred_is : (references : List Reference) (edge : Edge) → Contains (reference_edges from references) edge
      → IsReferred from references edge
  referred_is [] edge there = absurd (nothing_there edge there)
  referred_is (reference ∷ references) edge there =
      elim (Contains-append_cases (unless_zero (edge_by reference)) (reference_edges from references) edge there) [
        | inl here ↦
            let is = only_there (edge_by reference) edge here in
            subst (IsReferred from (reference ∷ references)) is.same (record {
              not_zero = is.not_zero;
              from_is = refl;
              via_is = refl;
              there = Contains-append_left (reference ∷ []) references reference (Contains-push [] reference);
            })
        | inr later ↦
            let is = referred_is references edge later in
            record {
              not_zero = is.not_zero;
              from_is = is.from_is;
              via_is = is.via_is;
              there = Contains-append_right (reference ∷ []) references (record { place = edge.position; to = edge.to }) is.there;
            }
      ]

  referred_there : (references : List Reference) (reference : Reference) → reference.to ≢ 0 → Contains references reference
      → Contains (reference_edges from references) (edge_by reference)
  referred_there [] reference not_zero there = absurd (nothing_there reference there)
  referred_there (first ∷ references) reference not_zero there =
      elim (Contains-append_cases (first ∷ []) references reference there) [
        | inl here ↦
            let same : first ≡ reference = one_there first reference here in
            Contains-append_left (unless_zero (edge_by first)) (reference_edges from references) (edge_by reference)
            (subst (λ (r : Reference). Contains (unless_zero (edge_by r)) (edge_by reference)) (sym same)
            (there_once (edge_by reference) not_zero))
        | inr later ↦ Contains-append_right (unless_zero (edge_by first)) (reference_edges from references) (edge_by reference)
            (referred_there references reference not_zero later)
      ]

  pub is_referred : (references : List Reference) (edge : Edge) → IsReferred from references edge
      → Contains (reference_edges from references) edge
  is_referred references edge is =
      let same : edge_by (record { place = edge.position; to = edge.to }) ≡ edge =
      λ i. record { from = sym is.from_is i; via = sym is.via_is i; position = edge.position; to = edge.to } in
      subst (Contains (reference_edges from references)) same
      (referred_there references (record { place = edge.position; to = edge.to }) is.not_zero is.there)
