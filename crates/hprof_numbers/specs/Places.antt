-- The number of a node: its place among all nodes.
use Rattle.std.specs.Prelude.{◌-◌, ◌<◌, ◌==◌, ℕ, List, Option, length, slice_index}
use Rattle.std.specs.List.{position}

-- the number of a node; none of what is no node
abbrev pub number_in : List ℕ → ℕ → Option ℕ
number_in nodes node = position (λ other. other == node) nodes

-- among nodes that ascend the node would stand at that place, and is none of them
abbrev pub IsMissingAt : List ℕ → ℕ → ℕ → Type 0
IsMissingAt nodes place node = (0 < place → slice_index nodes (place - 1) < node) × (place < length nodes → node < slice_index nodes place)
