-- What is kept where a search has come to its end.
use Rattle.std.proofs.Common.{◌≡◌, ◌≤◌, ℕ, zero, suc, List, [], Contains, nat_eq, ap, sym, subst, arith}
use Rattle.std.specs.List.{IsDistinct}
use Rattle.hprof_search.specs.declared.kept_search.Search.{Search}
use Rattle.hprof_search.specs.Search.{IsSearch, node_at, node_before}
use Rattle.hprof_search.specs.Walks.{IsDistance, IsFoundFrom}
use Rattle.hprof_search.proofs.Levels.{StartsIn, StepsIn, IsFrom, IsSearched}
use Rattle.hprof_search.proofs.OneWalk.{same_distance}
use Rattle.hprof_search.proofs.Ordered.{IsByDistance, in_order, nodes_in_order}
use Rattle.hprof_search.proofs.Told.{kept_finds}
use Rattle.hprof_search.proofs.Ways.{found_all}

module _ (Leads : ℕ → ℕ → Type 0) (starts : List ℕ) (search : Search)
    (searched : IsSearched Leads search.nodes.items starts (kept_finds search) [] search.levels)
    (once : IsDistinct nat_eq search.order.items) (by_distance : IsByDistance Leads search.nodes.items starts search.order.items) where
  abbrev Distance : ℕ → ℕ → Type 0
  Distance node count = IsDistance (StartsIn search.nodes.items starts) (StepsIn Leads search.nodes.items) node count

  abbrev FoundFrom : ℕ → ℕ → Type 0
  FoundFrom number count = IsFoundFrom (StartsIn search.nodes.items starts) (StepsIn Leads search.nodes.items) count
      (node_before search number) (node_at search number)

  found_from : (number count : ℕ) → IsFrom Leads search.nodes.items starts (kept_finds search) number count → FoundFrom number count
  found_from number zero from = ap (node_at search) from
  found_from number (suc count) from = from.1

  before : (number count : ℕ) → Contains search.order.items number → Distance (node_at search number) count → FoundFrom number count
  before number count has distance =
      let near = searched.near number ((in_order search.found.items search.order.items search.whole.ordered number).0 has) in
      let same = same_distance (StartsIn search.nodes.items starts) (StepsIn Leads search.nodes.items)
      (node_at search number) near.count count
      near.distance distance in
      subst (FoundFrom number) same (found_from number near.count near.from)

  levels : (node count : ℕ) → Distance node count → count ≤ search.levels
  levels node count distance =
      let there = found_all Leads search.nodes.items starts (kept_finds search) search.levels searched count node distance.reaches in
      let near = searched.near there.0 there.3 in
      let at = subst (λ (n : ℕ). Distance n near.count) there.2 near.distance in
      let same = same_distance (StartsIn search.nodes.items starts) (StepsIn Leads search.nodes.items) node count near.count distance at in
      let close = near.near in
      omega arith

  pub searches : IsSearch (StartsIn search.nodes.items starts) (StepsIn Leads search.nodes.items) search
  searches = record {
    order = nodes_in_order Leads search.nodes.items starts search.whole.ascend (kept_finds search) search.levels searched search.order.items
        search.whole.ordered once by_distance;
    before = before;
    levels = levels;
  }

-- the same over nodes that are those of the search
pub searches_over : (Leads : ℕ → ℕ → Type 0) (starts nodes : List ℕ) (search : Search) → search.nodes.items ≡ nodes
    → IsSearched Leads nodes starts (kept_finds search) [] search.levels → IsDistinct nat_eq search.order.items
    → IsByDistance Leads nodes starts search.order.items
    → IsSearch (λ node. Contains nodes node × Contains starts node) (λ from to. Leads from to × Contains nodes to) search
searches_over Leads starts nodes search same searched once order =
    subst (λ (ns : List ℕ). IsSearch (λ node. Contains ns node × Contains starts node) (λ from to. Leads from to × Contains ns to) search)
    same (searches Leads starts search
    (subst (λ (ns : List ℕ). IsSearched Leads ns starts (kept_finds search) [] search.levels) (sym same) searched) once
    (subst (λ (ns : List ℕ). IsByDistance Leads ns starts search.order.items) (sym same) order))
