-- What a search by levels keeps.
use Rattle.std.specs.Prelude.{◌≤◌, ℕ, List, Contains, map, slice_index}
use Rattle.hprof_search.specs.declared.kept_search.Search.{Search}
use Rattle.hprof_numbers.specs.Numbers.{items_in}
use Rattle.hprof_search.specs.Walks.{IsDistance, IsFoundFrom, IsOrder}

-- the node that has a number
abbrev pub node_at : Search → ℕ → ℕ
node_at search number = slice_index search.nodes.items number

-- the node that the one of a number was found from
abbrev pub node_before : Search → ℕ → ℕ
node_before search number = node_at search (slice_index (items_in search.before) number)

-- the nodes that were found, in the order in which they were found
abbrev pub nodes_found : Search → List ℕ
nodes_found search = map (node_at search) search.order.items

-- the nodes that have a distance were found, in the order of their distances, and no others; it is kept from which; and none is farther
-- than there were levels
pub record IsSearch (Starts : ℕ → Type 0) (Steps : ℕ → ℕ → Type 0) (search : Search) : Type 0 where
  pub order : IsOrder Starts Steps (nodes_found search)
  pub before : (number count : ℕ) → Contains search.order.items number → IsDistance Starts Steps (node_at search number) count
      → IsFoundFrom Starts Steps count (node_before search number) (node_at search number)
  pub levels : (node count : ℕ) → IsDistance Starts Steps node count → count ≤ search.levels
