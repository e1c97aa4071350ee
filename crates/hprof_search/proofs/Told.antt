-- What a search tells of a node is its distance and its path.
use Rattle.std.proofs.Common.{◌≡◌, ◌<◌, ◌≤◌, ◌-◌, ℕ, zero, suc, Bool, true, false, List, [], ◌∷◌, Option, Some, None, Contains}
use Rattle.std.proofs.Common.{option_and_then, length, map, reverse, slice_index, get_or, inl, inr, refl, sym, ap, subst, ◌∙◌, arith}
use Rattle.std.specs.Bool.{then_some}
use Rattle.std.specs.Prelude.{◌↔◌, IsTrue, is_some}
use Rattle.std.specs.Option.{option_map}
use Rattle.std.proofs.lemmas.List.{get_or-map, length-map, reverse-reverse}
use Rattle.std.proofs.lemmas.List.Elements.{Contains-get_or}
use Rattle.hprof_search.specs.declared.kept_search.Search.{Search}
use Rattle.hprof_search.specs.Finds.{Finds, is_found}
use Rattle.hprof_numbers.specs.Places.{number_in}
use Rattle.hprof_numbers.specs.Numbers.{items_in}
use Rattle.hprof_search.specs.Search.{IsSearch, node_at, nodes_found}
use Rattle.hprof_search.specs.WayBack.{found_in, way_back, way_in}
use Rattle.hprof_search.specs.Walks.{Reaches, IsDistance, HasDistance, IsWayBack, IsPath}
use Rattle.hprof_numbers.proofs.Ascending.{has_number, number_of, one_place}
use Rattle.hprof_numbers.proofs.Places.{splits}
use Rattle.hprof_search.proofs.Followed.{found_within}
use Rattle.hprof_search.proofs.OneWalk.{same_distance}
use Rattle.hprof_search.proofs.Ordered.{in_order}
use Rattle.hprof_numbers.proofs.Placed.{nowhere, stands}
use Rattle.hprof_search.proofs.Ways.{left_none, left_on, way_on}

abbrev pub kept_finds : Search → Finds
kept_finds search = record { found = search.found.items; before = items_in search.before; order = search.order.items; next = [] }

-- the distance that a search tells of a node
unfoldable pub distance_in : Search → ℕ → Option ℕ
distance_in search node = option_map (λ number. length (way_in search number) - 1) (found_in search node)

-- the path that it tells
unfoldable pub path_in : Search → ℕ → Option (List ℕ)
path_in search node = option_map (λ number. reverse (map (node_at search) (way_in search number))) (found_in search node)

module _ (search : Search) where
  found_stands : (node number : ℕ) → found_in search node ≡ Some number
      → (number < length search.nodes.items) × (slice_index search.nodes.items number ≡ node) × (is_found (kept_finds search) number ≡ true)
  unfolding found_in
  found_stands node number some = by (number_in search.nodes.items node) refl some where
    found_at : (at : ℕ) (b : Bool) → get_or search.found.items at false ≡ b → then_some b at ≡ Some number → (at ≡ number)
        × (get_or search.found.items at false ≡ true)
    found_at at true is same = (cc, is)
    found_at at false is same = absurd (cc)

    by : (place : Option ℕ) → number_in search.nodes.items node ≡ place
        → option_and_then (λ at. then_some (get_or search.found.items at false) at) place ≡ Some number
        → (number < length search.nodes.items) × (slice_index search.nodes.items number ≡ node)
        × (is_found (kept_finds search) number ≡ true)
    by None is same = absurd (cc)
    by (Some at) is same =
        let there = stands search.nodes.items node at is in
        let found = found_at at (get_or search.found.items at false) refl same in
        let P : ℕ → Type 0 = λ n. (n < length search.nodes.items) × (slice_index search.nodes.items n ≡ node)
        × (is_found (kept_finds search) n ≡ true) in
        subst P found.0 (there.0, there.1, found.1)

  not_found : (node number : ℕ) → found_in search node ≡ None → number < length search.nodes.items
      → slice_index search.nodes.items number ≡ node → is_found (kept_finds search) number ≡ true → ⊥
  unfolding found_in
  not_found node number none below stands_there found = by (number_in search.nodes.items node) refl none where
    by : (place : Option ℕ) → number_in search.nodes.items node ≡ place
        → option_and_then (λ at. then_some (get_or search.found.items at false) at) place ≡ None → ⊥
    by None is same = nowhere search.nodes.items node is number below stands_there
    by (Some at) is same =
        let there = stands search.nodes.items node at is in
        let e = one_place search.nodes.items search.whole.ascend at number there.0 below (there.1 ∙ sym stands_there) in
        let passes : get_or search.found.items at false ≡ true = ap (λ (n : ℕ). get_or search.found.items n false) e ∙ found in
        let wrong : Some at ≡ None = ap (λ (b : Bool). then_some b at) (sym passes) ∙ same in
        absurd (cc)

  -- a number in the order is that of a node
  is_number : (number : ℕ) → Contains search.order.items number → (number < length search.nodes.items)
      × (is_found (kept_finds search) number ≡ true)
  is_number number has =
      let found = (in_order search.found.items search.order.items search.whole.ordered number).0 has in
      let within = found_within (kept_finds search) number found in
      let many = search.whole.as_many in
      (omega arith, found)

  -- a node that was found has a number in the order
  number_found : (node : ℕ) → Contains (nodes_found search) node → (number : ℕ) × Contains search.order.items number
      × (node_at search number ≡ node)
  number_found node has =
      let there = number_of (nodes_found search) node has in
      let long = length-map search.order.items (node_at search) in
      let below = there.1 in
      let within : there.0 < length search.order.items = omega arith in (
        slice_index search.order.items there.0,
        Contains-get_or search.order.items there.0 0 within,
        sym (get_or-map (node_at search) search.order.items there.0 0 0 within) ∙ there.2,
      )

  node_found : (number : ℕ) → Contains search.order.items number → Contains (nodes_found search) (node_at search number)
  node_found number has =
      let there = number_of search.order.items number has in
      let long = length-map search.order.items (node_at search) in
      let below = there.1 in
      has_number (nodes_found search) (node_at search number) there.0 (omega arith)
      (get_or-map (node_at search) search.order.items there.0 0 0 below ∙ ap (node_at search) there.2)

module _ (Starts : ℕ → Type 0) (Steps : ℕ → ℕ → Type 0) (search : Search) (is : IsSearch Starts Steps search) where
  -- what was not found is not reached
  unreached : (node : ℕ) → (Contains (nodes_found search) node → ⊥) → (most count : ℕ) → count < most → Reaches Starts Steps count node → ⊥
  unreached node missing zero count below reaches = omega arith
  unreached node missing (suc most) count below reaches = missing ((is.order.reached node).1 (
    count,
    record {
      reaches = reaches;
      least = λ other too. elim (splits other count) [
        | inl less ↦ absurd (unreached node missing most other (omega arith) too)
        | inr more ↦ more
      ];
    },
  ))

  none_reached : (node : ℕ) → found_in search node ≡ None → (count : ℕ) → Reaches Starts Steps count node → ⊥
  none_reached node none count reaches =
      unreached node (λ has.
      let there = number_found search node has in
      let number = is_number search there.0 there.1 in
      not_found search node there.0 none number.0 there.2 number.1) (suc count) count (omega arith) reaches

  distance_of : (node number : ℕ) → found_in search node ≡ Some number
      → Contains search.order.items number × ((count : ℕ) × IsDistance Starts Steps (node_at search number) count)
  distance_of node number some =
      let at = found_stands search node number some in
      let has = (in_order search.found.items search.order.items search.whole.ordered number).1 at.2 in
      (has, (is.order.reached (node_at search number)).0 (node_found search number has))

  -- the node before one that is no start has a number in the order too
  before_found : (before : ℕ) → before < length search.nodes.items → (count : ℕ) → IsDistance Starts Steps (node_at search before) count
      → Contains search.order.items before
  before_found before below count distance =
      let there = number_found search (node_at search before) ((is.order.reached (node_at search before)).1 (count, distance)) in
      let same = one_place search.nodes.items search.whole.ascend there.0 before (is_number search there.0 there.1).0 below there.2 in
      subst (Contains search.order.items) same there.1

  number_before : (number : ℕ) → Contains search.order.items number
      → (number < length search.nodes.items) × (slice_index (items_in search.before) number < length search.nodes.items)
  number_before number has =
      let paired = search.whole.paired in
      let below = (is_number search number has).0 in
      let back = search.whole.back number (omega arith) in
      (below, omega arith)

  -- the way back is as long as the distance, and goes by the least node before each
  goes_back : (count most number : ℕ) → count ≤ most → Contains search.order.items number
      → IsDistance Starts Steps (node_at search number) count
      → (length (way_back (items_in search.before) most number) ≡ suc count)
      × IsWayBack Starts Steps count (node_at search number) (map (node_at search) (way_back (items_in search.before) most number))
  goes_back zero most number close has distance =
      let within = number_before number has in
      let from = is.before number zero has distance in
      let same = one_place search.nodes.items search.whole.ascend
      (slice_index (items_in search.before) number) number within.1 within.0 from in
      let way = way_on (items_in search.before) most number
      ∙ ap (λ (ns : List ℕ). number ∷ ns) (left_none (items_in search.before) most number same) in
      (ap (length {A = ℕ}) way, (distance, ap (map (node_at search)) way))
  goes_back (suc count) zero number close has distance = absurd (omega arith)
  goes_back (suc count) (suc most) number close has distance =
      let within = number_before number has in
      let from = is.before number (suc count) has distance in
      let before = slice_index (items_in search.before) number in
      let apart : before ≡ number → ⊥ = λ same.
      let at = subst (λ (n : ℕ). IsDistance Starts Steps (node_at search n) count) same from.distance in
      let e = same_distance Starts Steps (node_at search number) (suc count) count distance at in
      omega arith in
      let way = way_on (items_in search.before) (suc most) number
      ∙ ap (λ (ns : List ℕ). number ∷ ns) (left_on (items_in search.before) most number apart) in
      let on = goes_back count most before (omega arith) (before_found before within.1 count from.distance) from.distance in (
        ap (length {A = ℕ}) way ∙ ap suc on.0,
        (
          distance,
          (
            node_at search before,
            map (node_at search) (way_back (items_in search.before) most before),
            ap (map (node_at search)) way,
            from,
            on.1,
          ),
        ),
      )

  distance_by : (node : ℕ) (number : Option ℕ) → found_in search node ≡ number
      → HasDistance Starts Steps node (option_map (λ n. length (way_in search n) - 1) number)
  distance_by node None none = none_reached node none
  distance_by node (Some number) some =
      let of = distance_of node number some in
      let distance = of.1.1 in
      let way = goes_back of.1.0 search.levels number (is.levels (node_at search number) of.1.0 distance) of.0 distance in
      let long = way.0 in
      let same : of.1.0 ≡ length (way_in search number) - 1 = omega arith in
      subst (λ (count : ℕ). IsDistance Starts Steps node count) same
      (subst (λ (n : ℕ). IsDistance Starts Steps n of.1.0) (found_stands search node number some).1 distance)

  path_by : (node : ℕ) (number : Option ℕ) → found_in search node ≡ number
      → IsPath Starts Steps node (option_map (λ n. reverse (map (node_at search) (way_in search n))) number)
  path_by node None none = none_reached node none
  path_by node (Some number) some =
      let of = distance_of node number some in
      let distance = of.1.1 in
      let way = goes_back of.1.0 search.levels number (is.levels (node_at search number) of.1.0 distance) of.0 distance in
      let nodes = map (node_at search) (way_in search number) in
      let Way : ℕ → List ℕ → Type 0 = IsWayBack Starts Steps of.1.0 in (
        of.1.0,
        subst (Way node) (sym (reverse-reverse nodes))
            (subst (λ (n : ℕ). Way n nodes) (found_stands search node number some).1 way.1),
      )

  pub tells_distance : (node : ℕ) → HasDistance Starts Steps node (distance_in search node)
  unfolding distance_in
  tells_distance node = distance_by node (found_in search node) refl

  pub tells_path : (node : ℕ) → IsPath Starts Steps node (path_in search node)
  unfolding path_in
  tells_path node = path_by node (found_in search node) refl

-- a search found the nodes that have a distance
module _ (Starts : ℕ → Type 0) (Steps : ℕ → ℕ → Type 0) (search : Search) (is : IsSearch Starts Steps search) (node : ℕ) where
  has_distance : (found : Option ℕ) → HasDistance Starts Steps node (option_map (λ number. length (way_in search number) - 1) found)
      → IsTrue (is_some found) ↔ ((steps : ℕ) × HasDistance Starts Steps node (Some steps))
  has_distance None none = (λ test. absurd cc, λ some. absurd (none some.0 some.1.reaches))
  has_distance (Some number) some = (λ test. (length (way_in search number) - 1, some), λ some. refl)

  pub tells_found : IsTrue (is_some (found_in search node)) ↔ ((steps : ℕ) × HasDistance Starts Steps node (Some steps))
  unfolding distance_in
  tells_found = has_distance (found_in search node) (tells_distance Starts Steps search is node)
