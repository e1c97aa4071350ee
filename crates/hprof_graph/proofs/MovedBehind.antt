-- Edges to an identifier, behind the others.
use Rattle.std.specs.Prelude.{◌↔◌, ◌≢◌}
use Rattle.std.specs.List.{dedup, dedup_from}
use Rattle.std.specs.List.Sorted.{IsPartitionPoint, IsPartitionedBy, IsPermutation, IsSorted, IsStrictlySortedBy}
use Rattle.std.proofs.Common.{◌≡◌, ℕ, ◌+◌, ◌-◌, ◌<◌, ◌≤◌, ◌==◌, ◌++◌, Bool, true, false, not, cond, List, [], ◌∷◌, length, take, drop}
use Rattle.std.proofs.Common.{get_or, Contains, refl, sym, ap, subst, ◌∙◌, inl, inr, arith, get_or-take, get_or-drop, length-drop}
use Rattle.std.proofs.Common.{length-take}
use Rattle.std.proofs.Common.{length-append}
use Rattle.std.proofs.lemmas.Bool.{cases_order, eq-eqb, eqb-true, false_from_ne_true}
use Rattle.std.proofs.Math.Seq.{drop-append_seam}
use Rattle.std.proofs.lemmas.List.{append-nil, get_or_append_left, get_or-append_right, take-append-drop, take-append-le, take_all}
use borrow.Rule.Slice.PartMut.{mid_of, post_of}
use Rattle.hprof_layouts.proofs.Outlines.{no_elements}
use Rattle.std.proofs.lemmas.List.Sorted.{Contains-permutation, IsPermutation-sym}
use Rattle.std.proofs.lemmas.List.Kept.{IsStrictlySortedBy-dedup, Contains-dedup, Contains-from_dedup}
use Rattle.std.proofs.lemmas.List.Elements.{Contains-append_cases, Contains-append_left, Contains-append_right, Contains-get_or}
use Rattle.hprof_edges.specs.declared.edge.Edge.{Edge}
use Rattle.hprof_edges.specs.declared.edge.Via.TheVariants as vias
use Rattle.hprof_edges.specs.contracts.edge.EdgeOrd.TheImpl as edge_ord
use Rattle.hprof_edges.specs.contracts.edge.EdgeOrd.TheImpl.Laws.{total-law, matches_eq-law}
use Rattle.hprof_edges.specs.contracts.edge.EdgePartialEq.TheImpl as edge_eq
use Rattle.hprof_edges.specs.contracts.edge.EdgeEq.TheImpl.Laws.{laws-law}
use Rattle.hprof_edges.proofs.EdgeEquality.{edge_same}

-- ---- dedup of two parts that have no element in common

module _ {X : Type 0} (same : X → X → Bool) where
  -- none of them is the same as any of those
  abbrev Apart : List X → List X → Type 0
  Apart xs ys = (x y : X) → Contains xs x → Contains ys y → same y x ≡ false

  head_in : (x : X) (xs : List X) → Contains (x ∷ xs) x
  head_in x xs = (0, omega arith, refl)

  rest_in : (x y : X) (xs : List X) → Contains xs y → Contains (x ∷ xs) y
  rest_in x y xs there = Contains-append_right (x ∷ []) xs y there

  -- a part without its second element
  fewer : (k x : X) (xs : List X) (z : X) → Contains (k ∷ xs) z → Contains (k ∷ (x ∷ xs)) z
  fewer k x xs z there = elim (Contains-append_cases (k ∷ []) xs z there) [
    | inl here ↦ Contains-append_left (k ∷ []) (x ∷ xs) z here
    | inr later ↦ rest_in k z (x ∷ xs) (rest_in x z xs later)
  ]

  dedup_from-parts : (k : X) (xs : List X) (y : X) (ys : List X) → ((x : X) → Contains (k ∷ xs) x → same y x ≡ false)
      → dedup_from same k (xs ++ y ∷ ys) ≡ dedup_from same k xs ++ dedup_from same y ys
  dedup_from-parts k [] y ys apart =
      ap (λ (t : Bool). cond t (dedup_from same k ys) (k ∷ dedup_from same y ys)) (apart k (head_in k []))
  dedup_from-parts k (x ∷ xs) y ys apart =
      elim (same x k) as (λ t. cond t (dedup_from same k (xs ++ y ∷ ys)) (k ∷ dedup_from same x (xs ++ y ∷ ys))
      ≡ cond t (dedup_from same k xs) (k ∷ dedup_from same x xs) ++ dedup_from same y ys) [
        | true ↦ dedup_from-parts k xs y ys (λ z there. apart z (fewer k x xs z there))
        | false ↦ ap (λ (l : List X). k ∷ l) (dedup_from-parts x xs y ys (λ z there. apart z (rest_in k z (x ∷ xs) there)))
      ]

  pub dedup-parts : (xs ys : List X) → Apart xs ys → dedup same (xs ++ ys) ≡ dedup same xs ++ dedup same ys
  dedup-parts [] ys apart = refl
  dedup-parts (x ∷ xs) [] apart = ap (dedup same) (append-nil (x ∷ xs)) ∙ sym (append-nil (dedup same (x ∷ xs)))
  dedup-parts (x ∷ xs) (y ∷ ys) apart = dedup_from-parts x xs y ys (λ z there. apart z y there (head_in y ys))

-- ---- edges to others, and behind them those to the identifier

-- whether an edge is to another
abbrev pub to_other : ℕ → Edge → Bool
to_other id edge = not (edge.to == id)

other_is : (id : ℕ) (edge : Edge) → edge.to ≢ id → to_other id edge ≡ true
other_is id edge apart = ap not (false_from_ne_true (edge.to == id) (λ e. apart (eqb-true edge.to id e)))

this_is : (id : ℕ) (edge : Edge) → edge.to ≡ id → to_other id edge ≡ false
this_is id edge same = ap not (eq-eqb edge.to id same)

module _ (id : ℕ) (front back : List Edge) (others : (edge : Edge) → Contains front edge → edge.to ≢ id)
    (behind : (edge : Edge) → Contains back edge → edge.to ≡ id) where
  abbrev same_edge : Edge → Edge → Bool
  same_edge = (edge_eq.ghosts).eq

  abbrev pub front_once : List Edge
  front_once = dedup same_edge front

  abbrev pub back_once : List Edge
  back_once = dedup same_edge back

  apart : (one other : Edge) → Contains front one → Contains back other → same_edge other one ≡ false
  apart one other in_front in_back =
      false_from_ne_true (same_edge other one) (λ e.
      let same = edge_same other one e in
      others one in_front (ap (λ (edge : Edge). edge.to) (sym same) ∙ behind other in_back))

  pub parts_once : dedup same_edge (front ++ back) ≡ front_once ++ back_once
  parts_once = dedup-parts same_edge front back apart

  others_once : (place : ℕ) (d : Edge) → place < length front_once → to_other id (get_or (front_once ++ back_once) place d) ≡ true
  others_once place d below =
      let there = Contains-from_dedup same_edge front (get_or front_once place d) (Contains-get_or front_once place d below) in
      ap (to_other id) (get_or_append_left front_once back_once d place below) ∙ other_is id (get_or front_once place d)
      (others (get_or front_once place d) there)

  behind_once : (place : ℕ) (d : Edge) → length front_once ≤ place → place < length (front_once ++ back_once)
      → to_other id (get_or (front_once ++ back_once) place d) ≡ false
  behind_once place d on below =
      let counted = length-append front_once back_once in
      let within : place - length front_once < length back_once = omega (arith, counted, on, below) in
      let edge = get_or back_once (place - length front_once) d in
      let there = Contains-from_dedup same_edge back edge (Contains-get_or back_once (place - length front_once) d within) in
      ap (to_other id) (get_or-append_right front_once back_once (length front_once) place d refl on) ∙ this_is id edge (behind edge there)

  pub parted : IsPartitionedBy (to_other id) (front_once ++ back_once)
  parted place other d before below passes = elim (cases_order other (length front_once)) [
    | inl same ↦ absurd (let fails = behind_once other d (omega (arith, same)) below in cc)
    | inr apart_too ↦ elim apart_too [
      | inl lt ↦ others_once place d (omega (arith, before, lt))
      | inr gt ↦ absurd (let fails = behind_once other d (omega (arith, gt)) below in cc)
    ]
  ]

  module _ (point : ℕ) (bound : point ≤ length (front_once ++ back_once))
      (cut : IsPartitionPoint (λ edge. to_other id edge ≡ true) (λ edge. to_other id edge ≡ false) (front_once ++ back_once) point)
      (d : Edge) where
    at_seam : point ≡ length front_once
    at_seam =
        let counted = length-append front_once back_once in
        elim (cases_order point (length front_once)) [
          | inl same ↦ same
          | inr apart_too ↦ elim apart_too [
            | inl lt ↦
                let passes = others_once point d lt in
                let fails = cut.1 point d (omega arith) (omega (arith, counted, lt)) in
                absurd cc
            | inr gt ↦
                let fails = behind_once (length front_once) d (omega arith) (omega (arith, bound, gt)) in
                let passes = cut.0 (length front_once) d (omega arith) gt in
                absurd cc
          ]
        ]

    dropped : drop point (front_once ++ back_once) ≡ back_once
    dropped = ap (λ (n : ℕ). drop n (front_once ++ back_once)) at_seam ∙ drop-append_seam front_once back_once

    pub behind_ascends : IsSorted (edge_ord.ghosts).cmp back
        → IsStrictlySortedBy (edge_ord.ghosts).cmp (drop point (front_once ++ back_once))
    behind_ascends sorted =
        subst (IsStrictlySortedBy (edge_ord.ghosts).cmp) (sym dropped) (IsStrictlySortedBy-dedup total-law matches_eq-law back sorted)

    pub behind_exact : (edge : Edge) → Contains (drop point (front_once ++ back_once)) edge
        ↔ (Contains (front ++ back) edge × (edge.to ≡ id))
    behind_exact edge = (there, back_there) where
      there : Contains (drop point (front_once ++ back_once)) edge → Contains (front ++ back) edge × (edge.to ≡ id)
      there has =
          let in_back = Contains-from_dedup same_edge back edge (subst (λ (l : List Edge). Contains l edge) dropped has) in
          (Contains-append_right front back edge in_back, behind edge in_back)

      back_there : Contains (front ++ back) edge × (edge.to ≡ id) → Contains (drop point (front_once ++ back_once)) edge
      back_there both = subst (λ (l : List Edge). Contains l edge) (sym dropped) (elim (Contains-append_cases front back edge both.0) [
        | inl in_front ↦ absurd (others edge in_front both.1)
        | inr in_back ↦ Contains-dedup laws-law edge_same back edge in_back
      ])

-- ---- the edges before the last step

-- no edges of either kind are given where the list is cut by place
module _ (id start : ℕ) (edges : List Edge) (within : start ≤ length edges) where
  pub front_others : ((place : ℕ) (d : Edge) → place < start → (get_or edges place d).to ≢ id) → (edge : Edge)
      → Contains (take start edges) edge → edge.to ≢ id
  front_others others edge there =
      let counted = length-take start edges in
      let below : there.0 < start = omega (arith, counted, there.1) in
      subst (λ (e : Edge). e.to ≢ id) (sym (get_or-take start edges there.0 edge below) ∙ there.2) (others there.0 edge below)

  pub back_behind : ((place : ℕ) (d : Edge) → start ≤ place → place < length edges → (get_or edges place d).to ≡ id) → (edge : Edge)
      → Contains (drop start edges) edge → edge.to ≡ id
  back_behind behind edge there =
      let counted = length-drop start edges in
      subst (λ (e : Edge). e.to ≡ id) (sym (get_or-drop start edges there.0 edge) ∙ there.2)
      (behind (start + there.0) edge (omega arith) (omega (arith, counted, there.1)))

-- ---- all steps

-- the edges are as before, each once, and those to the identifier stand behind the place, in order
pub record IsBrought (id : ℕ) (old new : List Edge) (place : ℕ) : Type 0 where
  pub ascend : IsStrictlySortedBy (edge_ord.ghosts).cmp (drop place new)
  pub exact : (edge : Edge) → Contains (drop place new) edge ↔ (Contains old edge × (edge.to ≡ id))
  pub same : (edge : Edge) → Contains new edge ↔ Contains old edge

module _ (id : ℕ) (old moved sorted new : List Edge) (start place : ℕ) (within : start ≤ length moved) (moves : IsPermutation old moved)
    (others : (place : ℕ) (d : Edge) → place < start → (get_or moved place d).to ≢ id)
    (behind : (place : ℕ) (d : Edge) → start ≤ place → place < length moved → (get_or moved place d).to ≡ id)
    (same_front : take start sorted ≡ take start moved) (moves_back : IsPermutation (drop start moved) (drop start sorted))
    (in_order : IsSorted (edge_ord.ghosts).cmp (drop start sorted)) (once : new ≡ dedup (edge_eq.ghosts).eq sorted)
    (bound : place ≤ length new)
    (cut : IsPartitionedBy (to_other id) new
    → IsPartitionPoint (λ edge. to_other id edge ≡ true) (λ edge. to_other id edge ≡ false) new place) where
  abbrev front : List Edge
  front = take start sorted

  abbrev back : List Edge
  back = drop start sorted

  front_are : (edge : Edge) → Contains front edge → edge.to ≢ id
  front_are edge there =
      front_others id start moved within others edge (subst (λ (l : List Edge). Contains l edge) same_front there)

  back_are : (edge : Edge) → Contains back edge → edge.to ≡ id
  back_are edge there =
      back_behind id start moved within behind edge
      (Contains-permutation (drop start sorted) (drop start moved) edge
      (IsPermutation-sym (drop start moved) (drop start sorted) moves_back) there)

  new_is : new ≡ front_once id front back front_are back_are ++ back_once id front back front_are back_are
  new_is =
      once ∙ ap (dedup (edge_eq.ghosts).eq) (sym (take-append-drop start sorted)) ∙ parts_once id front back front_are back_are

  -- the edges are as before
  sorted_from_old : (edge : Edge) → Contains (front ++ back) edge ↔ Contains old edge
  sorted_from_old edge = (there, back_there) where
    there : Contains (front ++ back) edge → Contains old edge
    there has =
        Contains-permutation moved old edge (IsPermutation-sym old moved moves)
        (subst (λ (l : List Edge). Contains l edge) (take-append-drop start moved)
        (elim (Contains-append_cases front back edge has) [
          | inl in_front ↦ Contains-append_left (take start moved) (drop start moved) edge
              (subst (λ (l : List Edge). Contains l edge) same_front in_front)
          | inr in_back ↦ Contains-append_right (take start moved) (drop start moved) edge
              (Contains-permutation (drop start sorted) (drop start moved) edge
              (IsPermutation-sym (drop start moved) (drop start sorted) moves_back) in_back)
        ]))

    back_there : Contains old edge → Contains (front ++ back) edge
    back_there has =
        let in_moved = subst (λ (l : List Edge). Contains l edge) (sym (take-append-drop start moved))
        (Contains-permutation old moved edge moves has) in
        elim (Contains-append_cases (take start moved) (drop start moved) edge in_moved) [
          | inl in_front ↦ Contains-append_left front back edge (subst (λ (l : List Edge). Contains l edge) (sym same_front) in_front)
          | inr in_back ↦ Contains-append_right front back edge
              (Contains-permutation (drop start moved) (drop start sorted) edge moves_back in_back)
        ]

  abbrev none : Edge
  none = record { from = 0; via = vias.Class; position = 0; to = 0 }

  pub brought : IsBrought id old new place
  brought =
      let all = front_once id front back front_are back_are ++ back_once id front back front_are back_are in
      let within_all = subst (λ (l : List Edge). place ≤ length l) new_is bound in
      let cut_all = subst (λ (l : List Edge). IsPartitionPoint (λ (edge : Edge). to_other id edge ≡ true)
      (λ (edge : Edge). to_other id edge ≡ false) l place) new_is
      (cut (subst (IsPartitionedBy (to_other id)) (sym new_is) (parted id front back front_are back_are))) in
      record {
        ascend = subst (λ (l : List Edge). IsStrictlySortedBy (edge_ord.ghosts).cmp (drop place l)) (sym new_is)
            (behind_ascends id front back front_are back_are place within_all cut_all none in_order);
        exact = λ edge.
            let are = behind_exact id front back front_are back_are place within_all cut_all none edge in
            let same_drop = ap (drop place) new_is in (
              λ there. (
                  let both = are.0 (subst (λ (l : List Edge). Contains l edge) same_drop there) in
                  ((sorted_from_old edge).0 both.0, both.1)
                  ),
              λ both. subst (λ (l : List Edge). Contains l edge) (sym same_drop) (are.1 ((sorted_from_old edge).1 both.0, both.1)),
            );
        same = λ edge. (
          λ there. (sorted_from_old edge).0 (subst (λ (l : List Edge). Contains l edge) (sym (take-append-drop start sorted))
              (Contains-from_dedup (edge_eq.ghosts).eq sorted edge (subst (λ (l : List Edge). Contains l edge) once there))),
          λ there. subst (λ (l : List Edge). Contains l edge) (sym once) (Contains-dedup laws-law edge_same sorted edge
              (subst (λ (l : List Edge). Contains l edge) (take-append-drop start sorted) ((sorted_from_old edge).1 there))),
        );
      }

-- ---- a part that is sorted

-- what a list is from a place on, of which that part was written anew
pub tail_is : {X : Type 0} (start count : ℕ) (given items part : List X) → given ≡ items → count ≡ length items → start ≤ count
    → length part ≡ length (mid_of start (length given - start) given)
    → drop start (take count ((take start given ++ (part ++ post_of start (length given - start) given))
    ++ drop (length (take start given ++ (part ++ post_of start (length given - start) given))) items)) ≡ part
tail_is {X} start count given items part same counted within long =
    let rest = post_of start (length given - start) given in
    let given_long : length given ≡ count = ap length same ∙ sym counted in
    let first_drop = length-drop start given in
    let second_drop = length-drop (length given - start) (drop start given) in
    let none : rest ≡ [] = no_elements rest (omega (arith, first_drop, second_drop)) in
    let mid_long = length-take (length given - start) (drop start given) in
    let front_long = length-take start given in
    let whole : take start given ++ (part ++ rest) ≡ take start given ++ part =
    ap (λ (l : List X). take start given ++ (part ++ l)) none ∙ ap (λ (l : List X). take start given ++ l) (append-nil part) in
    let sums = length-append (take start given) part in
    let all_long : count
    ≡ length (take start given ++ part) = omega (arith, sums, front_long, mid_long, first_drop, long, given_long, within) in
    let at : start ≡ length (take start given) = omega (arith, front_long, given_long, within) in
    ap (λ (l : List X). drop start (take count (l ++ drop (length l) items))) whole
    ∙ ap (drop start) (take-append-le count (take start given ++ part) (drop (length (take start given ++ part)) items)
    (omega (arith, all_long))
    ∙ take_all count (take start given ++ part) (omega (arith, all_long)))
    ∙ ap (λ (n : ℕ). drop n (take start given ++ part)) at ∙ drop-append_seam (take start given) part
