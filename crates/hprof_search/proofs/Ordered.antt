-- The order in which numbers are found: by their distances.
use Rattle.std.proofs.Common.{◌≡◌, ◌↔◌, ◌<◌, ◌≤◌, ◌-◌, ◌++◌, ℕ, suc, Bool, true, false, List, [], Contains, None, get_or, length}
use Rattle.std.proofs.Common.{length-append, map, nat_eq, slice_index, inl, inr, refl, sym, ap, subst, ◌∙◌, arith}
use Rattle.std.specs.List.{IsDistinct}
use Rattle.std.specs.List.Sorted.{IsStrictlyIncreasing}
use Rattle.std.proofs.lemmas.Bool.Decides.{Decides-eqb}
use Rattle.std.proofs.lemmas.Cmp.{nat_eq_equiv}
use Rattle.std.proofs.lemmas.List.{get_or-map, length-map}
use Rattle.std.proofs.lemmas.List.Elements.{Contains-get_or}
use Rattle.std.proofs.lemmas.Map.Made.{AllPairs-from_IsDistinct}
use Rattle.std.proofs.lemmas.Map.Views.{Contains-from_any, list_any-from_Contains}
use Rattle.std.proofs.Math.ListN.{get_or-append}
use Rattle.std.proofs.Math.Seq.{get_or-append_right}
use Rattle.hprof_search.specs.Finds.{Finds, Follows, LeadsOn, LeadsTo, is_found}
use Rattle.hprof_search.specs.Kept.{OrdersFound}
use Rattle.hprof_search.specs.Walks.{IsDistance, IsOrder}
use Rattle.hprof_numbers.proofs.Ascending.{has_number, number_of, one_place}
use Rattle.hprof_search.proofs.FirstLevel.{start_distance}
use Rattle.hprof_numbers.proofs.Places.{splits}
use Rattle.hprof_search.proofs.Followed.{found_within}
use Rattle.hprof_search.proofs.Levels.{StartsIn, StepsIn, IsSearched, came_distance}
use Rattle.hprof_search.proofs.OneWalk.{same_distance}
use Rattle.hprof_search.proofs.Ways.{found_all}

-- a number is in the order exactly if it was found
pub in_order : (found : List Bool) (order : List ℕ) → OrdersFound found order → (number : ℕ)
    → Contains order number ↔ (get_or found number false ≡ true)
in_order found order ordered number = (
  λ has. sym (ordered number) ∙ list_any-from_Contains nat_eq_equiv number order has,
  λ is. Contains-from_any (λ one other. (Decides-eqb one other).0) number order (ordered number ∙ is),
)

none_behind : (items : List ℕ) (number : ℕ) → items ≡ [] → Contains items number → ⊥
none_behind items number none has =
    let there = subst (λ (ns : List ℕ). Contains ns number) none has in
    let below = there.1 in
    omega arith

module _ (Leads : ℕ → ℕ → Type 0) (nodes starts : List ℕ) where
  abbrev Distance : ℕ → ℕ → Type 0
  Distance number count = IsDistance (StartsIn nodes starts) (StepsIn Leads nodes) (slice_index nodes number) count

  -- no number is behind one that is farther
  abbrev pub IsByDistance : List ℕ → Type 0
  IsByDistance order = (place other near far : ℕ) → place < other → other < length order → Distance (slice_index order place) near
      → Distance (slice_index order other) far → near ≤ far

  -- numbers at one distance go behind numbers that are no farther
  put_behind : (old came : List ℕ) (count : ℕ) → IsByDistance old
      → ((number near : ℕ) → Contains old number → Distance number near → near ≤ count)
      → ((number : ℕ) → Contains came number → Distance number count) → IsByDistance (old ++ came)
  put_behind old came count by_distance of_old of_came place other near far before below at_place at_other =
      elim (splits other (length old)) [
        | inl early ↦ by_distance place other near far before early (from_old place near (omega arith) at_place)
            (from_old other far early at_other)
        | inr late ↦
            let last = from_came other far late below at_other in
            elim (splits place (length old)) [
              | inl early ↦
                  let close = of_old (slice_index old place) near (Contains-get_or old place 0 early)
                  (from_old place near early at_place) in
                  omega arith
              | inr here ↦ let same = from_came place near here (omega arith) at_place in omega arith
            ]
      ]
    where
      from_old : (at count : ℕ) → at < length old → Distance (slice_index (old ++ came) at) count → Distance (slice_index old at) count
      from_old at count early = subst (λ (n : ℕ). Distance n count) (get_or-append old came 0 at early)

      from_came : (at far : ℕ) → length old ≤ at → at < length (old ++ came) → Distance (slice_index (old ++ came) at) far → far ≡ count
      from_came at far late within distance =
          let long = length-append old came in
          let here = of_came (slice_index came (at - length old)) (Contains-get_or came (at - length old) 0 (omega arith)) in
          let is = subst (λ (n : ℕ). Distance n far) (get_or-append_right old came at 0 late) distance in
          same_distance (StartsIn nodes starts) (StepsIn Leads nodes)
          (slice_index nodes (slice_index came (at - length old))) far count is here

  -- the first level
  pub first_in_order : (old new : Finds) → ((number : ℕ) → is_found old number ≡ false) → length old.found ≡ length nodes
      → Follows (LeadsTo nodes None starts) old new → old.order ≡ [] → old.next ≡ [] → IsByDistance new.order
  first_in_order old new none many follows empty no_next =
      let order = follows.order in
      let came : new.next ≡ order.0 = order.2 ∙ ap (λ (ns : List ℕ). ns ++ order.0) no_next in
      let all : new.order ≡ [] ++ order.0 = order.1 ∙ ap (λ (ns : List ℕ). ns ++ order.0) empty in
      subst IsByDistance (sym all) (put_behind [] order.0 0 (λ place other near far before below. absurd (omega arith))
      (λ number near has. absurd (none_behind [] number refl has))
      (λ number has. elim ((follows.next number).0 (subst (λ (ns : List ℕ). Contains ns number) (sym came) has)) [
        | inl was ↦ absurd (none_behind old.next number no_next was)
        | inr is ↦ start_distance Leads nodes starts old new none many follows number is.1
      ]))

  -- and one level more
  pub more_in_order : (ascend : IsStrictlyIncreasing nodes) (old new : Finds) (last : List ℕ) (level : ℕ)
      → IsSearched Leads nodes starts old last level → Follows (LeadsOn Leads nodes last) old new → OrdersFound old.found old.order
      → old.next ≡ [] → IsByDistance old.order → IsByDistance new.order
  more_in_order ascend old new last level searched follows ordered no_next by_distance =
      let order = follows.order in
      let came : new.next ≡ order.0 = order.2 ∙ ap (λ (ns : List ℕ). ns ++ order.0) no_next in
      subst IsByDistance (sym order.1) (put_behind old.order order.0 (suc level) by_distance
      (λ number near has distance.
      let at = searched.near number ((in_order old.found old.order ordered number).0 has) in
      let same = same_distance (StartsIn nodes starts) (StepsIn Leads nodes)
      (slice_index nodes number) near at.count distance at.distance in
      let close = at.near in
      omega arith)
      (λ number has. elim ((follows.next number).0 (subst (λ (ns : List ℕ). Contains ns number) (sym came) has)) [
        | inl was ↦ absurd (none_behind old.next number no_next was)
        | inr is ↦ came_distance Leads nodes starts ascend old new last level searched follows number is.0 is.1
      ]))

  -- the nodes in the order, where the search has come to its end
  pub nodes_in_order : (ascend : IsStrictlyIncreasing nodes) (finds : Finds) (level : ℕ) → IsSearched Leads nodes starts finds [] level
      → (order : List ℕ) → OrdersFound finds.found order → IsDistinct nat_eq order → IsByDistance order
      → IsOrder (StartsIn nodes starts) (StepsIn Leads nodes) (map (slice_index nodes) order)
  nodes_in_order ascend finds level searched order ordered once by_distance = record {
    reached = λ node. (has_distance node, is_there node);
    once = λ place other d before below.
        let within : other < length order = omega (arith, length-map order (slice_index nodes)) in
        λ same.
        let one = at place d (omega arith) in
        let two = at other d within in
        let numbers = one_place nodes ascend (slice_index order place) (slice_index order other) (below_nodes place (omega arith))
        (below_nodes other within) (sym one ∙ same ∙ two) in
        AllPairs-from_IsDistinct Decides-eqb order once place other 0 before within numbers;
    ascend = λ place other d before below near far at_place at_other.
        let within : other < length order = omega (arith, length-map order (slice_index nodes)) in
        by_distance place other near far before within
        (subst (λ (n : ℕ). IsDistance (StartsIn nodes starts) (StepsIn Leads nodes) n near) (at place d (omega arith)) at_place)
        (subst (λ (n : ℕ). IsDistance (StartsIn nodes starts) (StepsIn Leads nodes) n far) (at other d within) at_other);
  } where
    at : (place d : ℕ) → place < length order → get_or (map (slice_index nodes) order) place d ≡ slice_index nodes (slice_index order place)
    at place d below = get_or-map (slice_index nodes) order place 0 d below

    below_nodes : (place : ℕ) → place < length order → slice_index order place < length nodes
    below_nodes place below =
        let found = (in_order finds.found order ordered (slice_index order place)).0 (Contains-get_or order place 0 below) in
        let within = found_within finds (slice_index order place) found in
        let many = searched.as_many in
        omega arith

    has_distance : (node : ℕ) → Contains (map (slice_index nodes) order) node
        → (count : ℕ) × IsDistance (StartsIn nodes starts) (StepsIn Leads nodes) node count
    has_distance node has =
        let there = number_of (map (slice_index nodes) order) node has in
        let within : there.0 < length order = let less = there.1 in omega (arith, length-map order (slice_index nodes)) in
        let number = slice_index order there.0 in
        let found = (in_order finds.found order ordered number).0 (Contains-get_or order there.0 0 within) in
        let near = searched.near number found in
        let is : slice_index nodes number ≡ node = sym (at there.0 0 within) ∙ there.2 in
        (near.count, subst (λ (n : ℕ). IsDistance (StartsIn nodes starts) (StepsIn Leads nodes) n near.count) is near.distance)

    is_there : (node : ℕ) → (count : ℕ) × IsDistance (StartsIn nodes starts) (StepsIn Leads nodes) node count
        → Contains (map (slice_index nodes) order) node
    is_there node is =
        let there = found_all Leads nodes starts finds level searched is.0 node is.1.reaches in
        let has = (in_order finds.found order ordered there.0).1 there.3 in
        let place = number_of order there.0 has in
        let within : place.0 < length (map (slice_index nodes) order) = let less =
        place.1 in omega (arith, length-map order (slice_index nodes)) in
        has_number (map (slice_index nodes) order) node place.0 within (at place.0 0 place.1 ∙ ap (slice_index nodes) place.2 ∙ there.2)
