-- A tree of contests: its first node has a least key, and what a change of a leaf does.
use Rattle.std.proofs.Common.{◌≡◌, ◌≢◌, ◌<◌, ◌≤◌, ◌+◌, ◌-◌, ◌*◌, ◌/◌, ◌⊎◌, ℕ, zero, suc, List, Bool, Option, Some, None, refl, sym}
use Rattle.std.proofs.Common.{ap, subst, ◌∙◌, inl, inr, arith, length, set, drop, cond}
use Rattle.std.proofs.lemmas.List.{get_or-set_same, get_or-set_other, get_or_past, get_or-drop, length-drop, length-map, length-set}
use Rattle.std.proofs.lemmas.List.{ext_get_or}
use Rattle.std.proofs.Math.ListN.{get_or-map}
use Rattle.std.proofs.lemmas.Bool.{cases_eq, cases_lt, lt-ltb, le-ltb}
use Rattle.hprof_merge.specs.Tree.{node_at, lesser_of, IsDecided, IsDecidedBut, HasPlaces, IsTree, key_of, keys_from}
use Rattle.hprof_merge.specs.Tree.{head_at}
use Rattle.hprof_merge.specs.Contest.{IsLeastHead}

-- one of two wins
pub lesser-one : (one other : Option (ℕ × ℕ)) → (lesser_of one other ≡ one) ⊎ (lesser_of one other ≡ other)
lesser-one None other = inr refl
lesser-one (Some one) None = inl refl
lesser-one (Some one) (Some other) = elim (cases_lt other.0 one.0) [
  | inl lt ↦ inr (ap (λ (t : Bool). cond t (Some other) (Some one)) (lt-ltb other.0 one.0 lt))
  | inr le ↦ inl (ap (λ (t : Bool). cond t (Some other) (Some one)) (le-ltb other.0 one.0 le))
]

-- where the second has a key, the first has one that is not above it
abbrev pub AtMost : Option (ℕ × ℕ) → Option (ℕ × ℕ) → Type 0
AtMost least head = (one : ℕ × ℕ) → head ≡ Some one → (low : ℕ × ℕ) × (least ≡ Some low) × (low.0 ≤ one.0)

at_most_self : (head : Option (ℕ × ℕ)) → AtMost head head
at_most_self head one is = (one, is, omega arith)

at_most_then : (a b c : Option (ℕ × ℕ)) → AtMost a b → AtMost b c → AtMost a c
at_most_then a b c first second one is =
    let mid = second one is in
    let low = first mid.0 mid.1 in
    let le = mid.2 in
    let more = low.2 in
    (low.0, low.1, omega arith)

-- neither of two is below the one that wins
lesser-at_most : (one other : Option (ℕ × ℕ)) → AtMost (lesser_of one other) one × AtMost (lesser_of one other) other
lesser-at_most None other = ((λ head is. cc), at_most_self other)
lesser-at_most (Some one) None = (at_most_self (Some one), (λ head is. cc))
lesser-at_most (Some one) (Some other) = elim (cases_lt other.0 one.0) [
  | inl lt ↦
      let won : lesser_of (Some one) (Some other) ≡ Some other =
      ap (λ (t : Bool). cond t (Some other) (Some one)) (lt-ltb other.0 one.0 lt) in (
        (λ head is. let e : one ≡ head = cc in let f : one.0 ≡ head.0 = ap (λ (h : ℕ × ℕ). h.0) e in (other, won, omega arith)),
        (λ head is. let e : other ≡ head = cc in let f : other.0 ≡ head.0 = ap (λ (h : ℕ × ℕ). h.0) e in (other, won, omega arith)),
      )
  | inr le ↦
      let won : lesser_of (Some one) (Some other) ≡ Some one =
      ap (λ (t : Bool). cond t (Some other) (Some one)) (le-ltb other.0 one.0 le) in (
        (λ head is. let e : one ≡ head = cc in let f : one.0 ≡ head.0 = ap (λ (h : ℕ × ℕ). h.0) e in (one, won, omega arith)),
        (λ head is. let e : other ≡ head = cc in let f : other.0 ≡ head.0 = ap (λ (h : ℕ × ℕ). h.0) e in (one, won, omega arith)),
      )
]

module _ (nodes : List (Option (ℕ × ℕ))) (count : ℕ) (decided : IsDecided nodes count) where
  -- no node is below the one above it
  above_at_most : (node : ℕ) → 1 < node → node < 2 * count → AtMost (node_at nodes (node / 2)) (node_at nodes node)
  above_at_most node more lt =
      let up : 0 < node / 2 = omega arith in
      let below : node / 2 < count = omega arith in
      let at_most = lesser-at_most (node_at nodes (2 * (node / 2))) (node_at nodes (2 * (node / 2) + 1)) in
      let P : Option (ℕ × ℕ) → ℕ → Type 0 = λ h n. AtMost h (node_at nodes n) in
      let won = sym (decided (node / 2) up below) in
      elim (cases_eq node (2 * (node / 2))) [
        | inl even ↦
            subst (λ (n : ℕ). P (node_at nodes (node / 2)) n) (sym even)
            (subst (λ (h : Option (ℕ × ℕ)). P h (2 * (node / 2))) won at_most.0)
        | inr off ↦
            let odd : node ≡ 2 * (node / 2) + 1 = omega arith in
            subst (λ (n : ℕ). P (node_at nodes (node / 2)) n) (sym odd)
            (subst (λ (h : Option (ℕ × ℕ)). P h (2 * (node / 2) + 1)) won at_most.1)
      ]

  -- nor below the first
  first_at_most : (fuel node : ℕ) → node ≤ fuel → 0 < node → node < 2 * count → AtMost (node_at nodes 1) (node_at nodes node)
  first_at_most zero node le up lt = absurd (omega arith)
  first_at_most (suc fuel) node le up lt = elim (cases_eq node 1) [
    | inl here ↦
        let P : ℕ → Type 0 = λ n. AtMost (node_at nodes 1) (node_at nodes n) in
        subst P (sym here) (at_most_self (node_at nodes 1))
    | inr apart ↦
        let half : node / 2 ≤ fuel = omega arith in
        let half_up : 0 < node / 2 = omega arith in
        let half_lt : node / 2 < 2 * count = omega arith in
        let more : 1 < node = omega arith in
        at_most_then (node_at nodes 1) (node_at nodes (node / 2)) (node_at nodes node) (first_at_most fuel (node / 2) half half_up half_lt)
        (above_at_most node more lt)
  ]

  -- what a node has, a leaf has
  leaf_of : (fuel node : ℕ) → 2 * count ≤ node + fuel → 0 < node → node < 2 * count → (head : ℕ × ℕ) → node_at nodes node ≡ Some head
      → (place : ℕ) × (place < count) × (node_at nodes (count + place) ≡ Some head)
  leaf_of zero node le up lt head is = absurd (omega arith)
  leaf_of (suc fuel) node le up lt head is = elim (cases_lt node count) [
    | inr leaf ↦
        let same : count + (node - count) ≡ node = omega arith in
        let in_count : node - count < count = omega arith in
        (node - count, in_count, ap (λ (n : ℕ). node_at nodes n) same ∙ is)
    | inl inner ↦
        let left_le : 2 * count ≤ 2 * node + fuel = omega arith in
        let left_up : 0 < 2 * node = omega arith in
        let left_lt : 2 * node < 2 * count = omega arith in
        let right_le : 2 * count ≤ 2 * node + 1 + fuel = omega arith in
        let right_up : 0 < 2 * node + 1 = omega arith in
        let right_lt : 2 * node + 1 < 2 * count = omega arith in
        elim (lesser-one (node_at nodes (2 * node)) (node_at nodes (2 * node + 1))) [
          | inl one ↦ leaf_of fuel (2 * node) left_le left_up left_lt head (sym one ∙ sym (decided node up inner) ∙ is)
          | inr other ↦ leaf_of fuel (2 * node + 1) right_le right_up right_lt head (sym other ∙ sym (decided node up inner) ∙ is)
        ]
  ]

-- ---- the keys of the leaves

pub head-node : (count : ℕ) (nodes : List (Option (ℕ × ℕ))) (place : ℕ) → head_at (keys_from count nodes) place
    ≡ key_of (node_at nodes (count + place))
head-node count nodes place = get_or-map key_of (drop count nodes) place None ∙ ap key_of (get_or-drop count nodes place None)

pub keys-length : (count : ℕ) (nodes : List (Option (ℕ × ℕ))) → length nodes ≡ 2 * count → length (keys_from count nodes) ≡ count
keys-length count nodes sized = length-map (drop count nodes) key_of ∙ length-drop count nodes ∙ omega arith

key_of-some : (head : Option (ℕ × ℕ)) (key : ℕ) → key_of head ≡ Some key → (one : ℕ × ℕ) × (head ≡ Some one) × (one.0 ≡ key)
key_of-some None key is = cc
key_of-some (Some one) key is = (one, refl, cc)

-- the first node has a least key, with its place
pub first_least : (nodes : List (Option (ℕ × ℕ))) (count : ℕ) → IsTree nodes count → 0 < count
    → IsLeastHead (keys_from count nodes) (node_at nodes 1)
first_least nodes count tree some = by (node_at nodes 1) refl
  where
    low : (place : ℕ) → place < count → AtMost (node_at nodes 1) (node_at nodes (count + place))
    low place lt =
        let up : 0 < count + place = omega arith in
        let below : count + place < 2 * count = omega arith in
        first_at_most nodes count tree.decided (count + place) (count + place) (omega arith) up below

    in_tree : (place : ℕ) (one : ℕ × ℕ) → node_at nodes (count + place) ≡ Some one → place < count
    in_tree place one is = elim (cases_lt place count) [
      | inl lt ↦ lt
      | inr le ↦
          let sized = tree.sized in
          let past : length nodes ≤ count + place = omega arith in
          let none : None ≡ Some one = sym (get_or_past nodes (count + place) None past) ∙ is in
          cc
    ]

    empty : node_at nodes 1 ≡ None → (place : ℕ) (head : Option (ℕ × ℕ)) → node_at nodes (count + place) ≡ head
        → key_of (node_at nodes (count + place)) ≡ None
    empty is place None here = ap key_of here
    empty is place (Some one) here =
        let found = low place (in_tree place one here) one here in
        let no_such : None ≡ Some found.0 = sym is ∙ found.1 in
        cc

    by : (first : Option (ℕ × ℕ)) → node_at nodes 1 ≡ first → IsLeastHead (keys_from count nodes) first
    by None is = λ place. head-node count nodes place ∙ empty is place (node_at nodes (count + place)) refl
    by (Some first) is =
        let from : 2 * count ≤ 1 + 2 * count = omega arith in
        let one_lt : 1 < 2 * count = omega arith in
        let leaf = leaf_of nodes count tree.decided (2 * count) 1 from (omega arith) one_lt first is in
        let own : first.1 ≡ leaf.0 = tree.placed leaf.0 first leaf.2 in
        let lt = leaf.1 in
        let sized : length (keys_from count nodes) ≡ count = keys-length count nodes tree.sized in (
          omega arith,
          ap (λ (p : ℕ). head_at (keys_from count nodes) p) own ∙ head-node count nodes leaf.0 ∙ ap key_of leaf.2,
          (λ place key there.
              let head = key_of-some (node_at nodes (count + place)) key (sym (head-node count nodes place) ∙ there) in
              let found = low place (in_tree place head.0 head.1) head.0 head.1 in
              let e : first ≡ found.0 = some_is first found.0 (sym is ∙ found.1) in
              let f : first.0 ≡ found.0.0 = ap (λ (h : ℕ × ℕ). h.0) e in
              let le = found.2 in
              let same = head.2 in
              omega arith),
        )
      where
        some_is : (a b : ℕ × ℕ) → Some a ≡ Some b → a ≡ b
        some_is a b e = cc

-- ---- a change

-- a contest decided again: the one above it is left
pub settled_step : (nodes : List (Option (ℕ × ℕ))) (count node : ℕ) → length nodes ≡ 2 * count → 1 < node → node < 2 * count
    → IsDecidedBut (node / 2) nodes count
    → IsDecidedBut (node / 2 / 2) (set nodes (node / 2) (lesser_of (node_at nodes (2 * (node / 2))) (node_at nodes (2 * (node / 2) + 1))))
    count
settled_step nodes count node sized more lt but at up below apart =
    let p : ℕ = node / 2 in
    let won : Option (ℕ × ℕ) = lesser_of (node_at nodes (2 * (node / 2))) (node_at nodes (2 * (node / 2) + 1)) in
    let left_off : 2 * at ≢ node / 2 = λ e. apart (omega arith) in
    let right_off : 2 * at + 1 ≢ node / 2 = λ e. apart (omega arith) in
    let left : node_at (set nodes (node / 2) won) (2 * at) ≡ node_at nodes (2 * at) =
    get_or-set_other nodes (node / 2) (2 * at) won None left_off in
    let right : node_at (set nodes (node / 2) won) (2 * at + 1) ≡ node_at nodes (2 * at + 1) =
    get_or-set_other nodes (node / 2) (2 * at + 1) won None right_off in
    let under : lesser_of (node_at nodes (2 * at)) (node_at nodes (2 * at + 1))
    ≡ lesser_of (node_at (set nodes (node / 2) won) (2 * at)) (node_at (set nodes (node / 2) won) (2 * at + 1)) =
    ap (λ (h : Option (ℕ × ℕ)). lesser_of h (node_at nodes (2 * at + 1))) (sym left)
    ∙ ap (λ (h : Option (ℕ × ℕ)). lesser_of (node_at (set nodes (node / 2) won) (2 * at)) h) (sym right) in
    elim (cases_eq at (node / 2)) [
      | inl here ↦
          let there : node / 2 < length nodes = omega arith in
          ap (λ (n : ℕ). node_at (set nodes (node / 2) won) n) here ∙ get_or-set_same nodes (node / 2) won None there
          ∙ ap (λ (n : ℕ). lesser_of (node_at nodes (2 * n)) (node_at nodes (2 * n + 1))) (sym here) ∙ under
      | inr off ↦ get_or-set_other nodes (node / 2) at won None off ∙ but at up below off ∙ under
    ]

-- the leaves are as they were
pub leaves_kept : (nodes : List (Option (ℕ × ℕ))) (count node : ℕ) (won : Option (ℕ × ℕ)) → node < count → (leaf : ℕ) → count ≤ leaf
    → node_at (set nodes node won) leaf ≡ node_at nodes leaf
leaves_kept nodes count node won lt leaf le =
    let apart : leaf ≢ node = λ e. omega arith in
    get_or-set_other nodes node leaf won None apart

-- a leaf put in: only the contest above it is open
pub changed_decided : (nodes : List (Option (ℕ × ℕ))) (count place : ℕ) (head : Option (ℕ × ℕ)) → IsDecided nodes count
    → IsDecidedBut ((count + place) / 2) (set nodes (count + place) head) count
changed_decided nodes count place head decided at up below apart =
    let here : at ≢ count + place = λ e. omega arith in
    let left : 2 * at ≢ count + place = λ e. apart (omega arith) in
    let right : 2 * at + 1 ≢ count + place = λ e. apart (omega arith) in
    get_or-set_other nodes (count + place) at head None here ∙ decided at up below
    ∙ ap (λ (h : Option (ℕ × ℕ)). lesser_of h (node_at nodes (2 * at + 1)))
    (sym (get_or-set_other nodes (count + place) (2 * at) head None left))
    ∙ ap (λ (h : Option (ℕ × ℕ)). lesser_of (node_at (set nodes (count + place) head) (2 * at)) h)
    (sym (get_or-set_other nodes (count + place) (2 * at + 1) head None right))

module _ (nodes new : List (Option (ℕ × ℕ))) (count place : ℕ) (head : Option (ℕ × ℕ)) (sized : length nodes ≡ 2 * count)
    (lt : place < count)
    (leaves : (leaf : ℕ) → count ≤ leaf → node_at new leaf ≡ node_at (set nodes (count + place) head) leaf) where
  leaf_here : node_at new (count + place) ≡ head
  leaf_here =
      let there : count + place < length nodes = omega arith in
      leaves (count + place) (omega arith) ∙ get_or-set_same nodes (count + place) head None there

  leaf_other : (other : ℕ) → other ≢ place → node_at new (count + other) ≡ node_at nodes (count + other)
  leaf_other other apart =
      let off : count + other ≢ count + place = λ e. apart (omega arith) in
      leaves (count + other) (omega arith) ∙ get_or-set_other nodes (count + place) (count + other) head None off

  pub changed_places : HasPlaces nodes count → ((one : ℕ × ℕ) → head ≡ Some one → one.1 ≡ place) → HasPlaces new count
  changed_places placed own other one is = elim (cases_eq other place) [
    | inl here ↦ own one (sym leaf_here ∙ ap (λ (p : ℕ). node_at new (count + p)) (sym here) ∙ is) ∙ sym here
    | inr apart ↦ placed other one (sym (leaf_other other apart) ∙ is)
  ]

  pub changed_keys : length new ≡ 2 * count → (key : Option ℕ) → key_of head ≡ key → keys_from count new
      ≡ set (keys_from count nodes) place key
  changed_keys new_sized key is =
      let all : length (keys_from count nodes) ≡ count = keys-length count nodes sized in
      let new_all : length (keys_from count new) ≡ count = keys-length count new new_sized in
      let set_all : length (set (keys_from count nodes) place key) ≡ length (keys_from count nodes) =
      length-set (keys_from count nodes) place key in
      let there : place < length (keys_from count nodes) = omega arith in
      ext_get_or None (keys_from count new) (set (keys_from count nodes) place key) (new_all ∙ sym all ∙ sym set_all) (λ at at_lt.
      elim (cases_eq at place) [
        | inl here ↦
            ap (λ (p : ℕ). head_at (keys_from count new) p) here ∙ head-node count new place ∙ ap key_of leaf_here ∙ is
            ∙ sym (ap (λ (p : ℕ). head_at (set (keys_from count nodes) place key) p) here
            ∙ get_or-set_same (keys_from count nodes) place key None there)
        | inr apart ↦
            head-node count new at ∙ ap key_of (leaf_other at apart) ∙ sym (head-node count nodes at)
            ∙ sym (get_or-set_other (keys_from count nodes) place at key None apart)
      ])

-- ---- a tree without keys

pub empty_tree : (nodes : List (Option (ℕ × ℕ))) (count : ℕ) → length nodes ≡ 2 * count → ((node : ℕ) → node_at nodes node ≡ None)
    → IsTree nodes count
empty_tree nodes count sized empty = record {
  sized = sized;
  decided = λ node up lt.
      empty node ∙ sym (empty (2 * node + 1)) ∙ ap (λ (h : Option (ℕ × ℕ)). lesser_of h (node_at nodes (2 * node + 1)))
      (sym (empty (2 * node)));
  placed = λ place head is. let e : None ≡ Some head = sym (empty (count + place)) ∙ is in cc;
}
