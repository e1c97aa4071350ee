-- Which nodes lead to a node.
use Rattle.std.specs.Prelude.{◌≡◌, ◌<◌, ◌≤◌, ℕ, List, length, slice_index, unwrap_or}
use Rattle.hprof_numbers.specs.Numbered.{nodes_in}
use Rattle.hprof_numbers.specs.Numbers.{items_in}
use Rattle.hprof_numbers.specs.Places.{number_in}
use Rattle.hprof_numbers.specs.declared.predecessors.Predecessors.{Predecessors}
use Rattle.hprof_numbers.specs.Lists.{end_in, start_in}

-- the list of a node is that of its number; identifiers that are no nodes share one
abbrev pub list_of : List ℕ → ℕ → ℕ
list_of nodes node = unwrap_or (number_in nodes node) (length nodes)

-- the nodes, in ascending order
abbrev pub nodes_of : Predecessors → List ℕ
nodes_of sources = nodes_in sources.nodes

-- where the nodes that may lead to a node begin, and where they end
abbrev pub start_of : Predecessors → ℕ → ℕ
start_of sources node = start_in sources.lists (list_of (nodes_of sources) node)

abbrev pub end_of : Predecessors → ℕ → ℕ
end_of sources node = end_in sources.lists (list_of (nodes_of sources) node)

-- the number of the node at a place
abbrev pub number_at : Predecessors → ℕ → ℕ
number_at sources place = slice_index (items_in sources.lists.items) place

-- the one node stands among those that may lead to the other
abbrev pub IsSource : Predecessors → ℕ → ℕ → Type 0
IsSource sources from to = (place : ℕ) × (start_of sources to ≤ place) × (place < end_of sources to)
    × (number_at sources place < length (nodes_of sources)) × (slice_index (nodes_of sources) (number_at sources place) ≡ from)
