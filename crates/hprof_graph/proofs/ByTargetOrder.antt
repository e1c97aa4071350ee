-- Edges in order by what they refer to.
use Rattle.std.specs.Prelude.{◌↔◌}
use Rattle.std.specs.Cmp.{IsTotalOrder, nat_cmp_is}
use Rattle.std.specs.List.{AllByRecursion}
use Rattle.std.specs.List.Sorted.{IsNonDecreasingBy, IsPartitionPoint, IsPartitionedBy, IsStrictlySortedBy}
use Rattle.std.specs.Ordering.{eq_by_cmp, nat_cmp, ordering_then}
use Rattle.std.specs.declared.cmp.Ordering.{Ordering}
use Rattle.std.specs.declared.cmp.Ordering.TheVariants.{Less, Equal, Greater}
use Rattle.std.proofs.Common.{◌≡◌, ℕ, zero, suc, ◌+◌, ◌-◌, ◌<◌, ◌≤◌, ◌==◌, ◌&&◌, Bool, true, false, List, [], ◌∷◌, length, take, drop}
use Rattle.std.proofs.Common.{get_or}
use Rattle.std.proofs.Common.{nat_lt, nat_le, Contains, refl, sym, ap, subst, ◌∙◌, inl, inr, arith, get_or-take, get_or-drop, length-drop}
use Rattle.std.proofs.Common.{length-take}
use Rattle.std.proofs.Common.{ltb-true, ltb-false}
use Rattle.std.proofs.lemmas.Bool.{cases_order, eq-eqb, leb-true, leb-false}
use Rattle.std.proofs.lemmas.Cmp.{on_total}
use Rattle.std.proofs.lemmas.List.Sorted.{IsNonDecreasingBy-drop, IsPartitionedBy-leb, IsPartitionedBy-ltb}
use Rattle.hprof_edges.specs.declared.edge.Edge.{Edge}
use Rattle.hprof_edges.specs.contracts.edge.EdgeOrd.TheImpl as edge_ord
use Rattle.hprof_edges.specs.contracts.edge.EdgePartialEq.TheImpl as edge_eq
use Rattle.hprof_edges.proofs.EdgeEquality.{edge_same}
use Rattle.hprof_graph.specs.contracts.by_target.TargetFirstOrd.TheImpl.Laws.{total-law, matches_eq-law}
use Rattle.hprof_graph.specs.ByTarget.{IsByTarget, target_cmp, target_first}

-- ---- the order

pub target_total : IsTotalOrder target_cmp
target_total = on_total target_first total-law

-- edges that tie are those that == counts as the same
pub target_ties : (one other : Edge) → (edge_eq.ghosts).eq one other ≡ eq_by_cmp target_cmp one other
target_ties one other = go ((edge_eq.ghosts).eq one other) refl ∙ matches_eq-law (target_first one) (target_first other) where
  go : (t : Bool) → (edge_eq.ghosts).eq one other ≡ t
      → (edge_eq.ghosts).eq one other ≡ ((one.to == other.to) && (edge_eq.ghosts).eq one other)
  go true e =
      let same : one ≡ other = edge_same one other e in
      let here : (one.to == other.to) ≡ true = eq-eqb one.to other.to (ap (λ (edge : Edge). edge.to) same) in
      sym (ap (λ (t : Bool). t && (edge_eq.ghosts).eq one other) here)
  go false e = e ∙ sym (ap (λ (t : Bool). (one.to == other.to) && t) e ∙ and_false (one.to == other.to)) where
    and_false : (t : Bool) → (t && false) ≡ false
    and_false true = refl
    and_false false = refl

-- an edge that is before another refers to no greater identifier
pub no_greater : (one other : Edge) → target_cmp one other ≡ Less → one.to ≤ other.to
no_greater one other less = elim (cases_order one.to other.to) [
  | inl same ↦ omega arith
  | inr apart ↦ elim apart [
    | inl lt ↦ omega arith
    | inr gt ↦
        let greater : Greater ≡ nat_cmp one.to other.to = nat_cmp_is one.to other.to Greater gt in
        let wrong : Greater ≡ Less = ap (λ (o : Ordering). ordering_then o ((edge_ord.ghosts).cmp one other)) greater ∙ less in
        absurd cc
  ]
]

-- where both refer to one, it is before it as edges are
pub edge_before : (one other : Edge) → target_cmp one other ≡ Less → one.to ≡ other.to → (edge_ord.ghosts).cmp one other ≡ Less
edge_before one other less same =
    let equal : Equal ≡ nat_cmp one.to other.to = nat_cmp_is one.to other.to Equal same in
    ap (λ (o : Ordering). ordering_then o ((edge_ord.ghosts).cmp one other)) equal ∙ less

-- ---- sorted lists by place

module _ {X : Type 0} (R : X → X → Ordering) where
  at_each : (P : X → Type 0) (xs : List X) → AllByRecursion P xs → (place : ℕ) (d : X) → place < length xs → P (get_or xs place d)
  at_each P [] all place d below = absurd (omega arith)
  at_each P (x ∷ xs) all zero d below = all.0
  at_each P (x ∷ xs) all (suc place) d below = at_each P xs all.1 place d (omega arith)

  from_each : (P : X → Type 0) (xs : List X) → ((place : ℕ) (d : X) → place < length xs → P (get_or xs place d)) → AllByRecursion P xs
  from_each P [] each = tt
  from_each P (x ∷ xs) each = (each 0 x (omega arith), from_each P xs (λ place d below. each (suc place) d (omega arith)))

  pub sorted_at : (xs : List X) → IsStrictlySortedBy R xs → (place other : ℕ) (d : X) → place < other → other < length xs
      → R (get_or xs place d) (get_or xs other d) ≡ Less
  unfolding IsStrictlySortedBy
  sorted_at [] sorted place other d before below = absurd (omega arith)
  sorted_at (x ∷ xs) sorted place zero d before below = absurd (omega arith)
  sorted_at (x ∷ xs) sorted zero (suc other) d before below =
      at_each (λ (y : X). R x y ≡ Less) xs sorted.0 other d (omega arith)
  sorted_at (x ∷ xs) sorted (suc place) (suc other) d before below = sorted_at xs sorted.1 place other d (omega arith) (omega arith)

  pub sorted_from : (xs : List X) → ((place other : ℕ) (d : X) → place < other → other < length xs
      → R (get_or xs place d) (get_or xs other d) ≡ Less) → IsStrictlySortedBy R xs
  unfolding IsStrictlySortedBy
  sorted_from [] each = tt
  sorted_from (x ∷ xs) each = (
    from_each (λ (y : X). R x y ≡ Less) xs (λ place d below. each 0 (suc place) d (omega arith) (omega arith)),
    sorted_from xs (λ place other d before below. each (suc place) (suc other) d (omega arith) (omega arith)),
  )

-- what they refer to does not fall
pub rises : (edges : List Edge) → IsByTarget edges → IsNonDecreasingBy (λ edge. edge.to) edges
rises edges sorted place other d before below = elim (cases_order place other) [
  | inl same ↦ let e = ap (λ (n : ℕ). (get_or edges n d).to) same in omega (arith, e)
  | inr apart ↦ elim apart [
    | inl lt ↦ no_greater (get_or edges place d) (get_or edges other d) (sorted_at target_cmp edges sorted place other d lt below)
    | inr gt ↦ absurd (omega arith)
  ]
]

-- ---- the edges to one

module _ (edges : List Edge) (sorted : IsByTarget edges) (id : ℕ) where
  pub cut_below : IsPartitionedBy (λ edge. nat_lt edge.to id) edges
  cut_below = IsPartitionedBy-ltb (λ (edge : Edge). edge.to) edges id (rises edges sorted)

  pub cut_up_to : (start : ℕ) → IsPartitionedBy (λ edge. nat_le edge.to id) (drop start edges)
  cut_up_to start =
      IsPartitionedBy-leb (λ (edge : Edge). edge.to) (drop start edges) id
      (IsNonDecreasingBy-drop (λ (edge : Edge). edge.to) start edges (rises edges sorted))

  module _ (start count : ℕ) (within : start ≤ length edges) (count_within : count ≤ length (drop start edges))
      (first : IsPartitionPoint (λ edge. nat_lt edge.to id ≡ true) (λ edge. nat_lt edge.to id ≡ false) edges start)
      (last : IsPartitionPoint (λ edge. nat_le edge.to id ≡ true) (λ edge. nat_le edge.to id ≡ false) (drop start edges) count) where
    abbrev run : List Edge
    run = take count (drop start edges)

    long : (length run ≡ count) × (start + count ≤ length edges)
    long =
        let cut = length-drop start edges in
        let taken = length-take count (drop start edges) in
        (omega (arith, cut, taken, count_within), omega (arith, cut, count_within, within))

    at_run : (place : ℕ) (d : Edge) → place < count → get_or run place d ≡ get_or edges (start + place) d
    at_run place d below = get_or-take count (drop start edges) place d below ∙ get_or-drop start edges place d

    to_it : (place : ℕ) (d : Edge) → place < count → (get_or edges (start + place) d).to ≡ id
    to_it place d below =
        let room = long.1 in
        let no_less = ltb-false _ _ (first.1 (start + place) d (omega arith) (omega arith)) in
        let up_to = leb-true _ _ (last.0 place d (omega arith) below) in
        let same = ap (λ (edge : Edge). edge.to) (get_or-drop start edges place d) in
        omega (arith, no_less, up_to, same)

    pub run_ascends : IsStrictlySortedBy (edge_ord.ghosts).cmp run
    run_ascends =
        sorted_from (edge_ord.ghosts).cmp run (λ place other d before below.
        let counted = long.0 in
        let room = long.1 in
        let one = at_run place d (omega arith) in
        let two = at_run other d (omega arith) in
        let less = sorted_at target_cmp edges sorted (start + place) (start + other) d (omega arith) (omega arith) in
        subst (λ (edge : Edge). (edge_ord.ghosts).cmp edge (get_or run other d) ≡ Less) (sym one)
        (subst (λ (edge : Edge). (edge_ord.ghosts).cmp (get_or edges (start + place) d) edge ≡ Less) (sym two)
        (edge_before (get_or edges (start + place) d) (get_or edges (start + other) d) less
        (to_it place d (omega arith) ∙ sym (to_it other d (omega arith))))))

    pub run_exact : (edge : Edge) → Contains run edge ↔ (Contains edges edge × (edge.to ≡ id))
    run_exact edge = (there, back) where
      there : Contains run edge → Contains edges edge × (edge.to ≡ id)
      there has =
          let counted = long.0 in
          let room = long.1 in
          let below : has.0 < count = omega (arith, counted, has.1) in
          let same = sym (at_run has.0 edge below) ∙ has.2 in (
            (start + has.0, omega arith, same),
            ap (λ (e : Edge). e.to) (sym same) ∙ to_it has.0 edge below,
          )

      at_or_past : (place : ℕ) → place < length edges → get_or edges place edge ≡ edge → edge.to ≡ id → start ≤ place
      at_or_past place below is to = elim (cases_order start place) [
        | inl same ↦ omega arith
        | inr apart ↦ elim apart [
          | inl lt ↦ omega arith
          | inr gt ↦
              let less = ltb-true _ _ (first.0 place edge (omega arith) gt) in
              let to_here = ap (λ (e : Edge). e.to) is in
              absurd (omega (arith, less, to_here, to))
        ]
      ]

      in_count : (place : ℕ) → start + place < length edges → get_or edges (start + place) edge ≡ edge → edge.to ≡ id → place < count
      in_count place below is to = elim (cases_order place count) [
        | inl same ↦ absurd (past place below is to (omega arith))
        | inr apart ↦ elim apart [ inl lt ↦ lt | inr gt ↦ absurd (past place below is to (omega arith)) ]
      ] where
        past : (place : ℕ) → start + place < length edges → get_or edges (start + place) edge ≡ edge → edge.to ≡ id → count ≤ place → ⊥
        past place below is to over =
            let cut = length-drop start edges in
            let greater = leb-false _ _ (last.1 place edge over (omega (arith, cut, below))) in
            let dropped = ap (λ (e : Edge). e.to) (get_or-drop start edges place edge) in
            let to_here = ap (λ (e : Edge). e.to) is in
            omega (arith, greater, dropped, to_here, to)

      back : Contains edges edge × (edge.to ≡ id) → Contains run edge
      back both =
          let has = both.0 in
          let on = at_or_past has.0 has.1 has.2 both.1 in
          let same : start + (has.0 - start) ≡ has.0 = omega (arith, on) in
          let here : get_or edges (start + (has.0 - start)) edge ≡ edge = ap (λ (n : ℕ). get_or edges n edge) same ∙ has.2 in
          let below = has.1 in
          let within_count = in_count (has.0 - start) (omega (arith, same, below)) here both.1 in
          let counted = long.0 in
          (has.0 - start, omega (arith, counted, within_count), at_run (has.0 - start) edge within_count ∙ here)
