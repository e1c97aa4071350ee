-- Nodes by their numbers.
use Rattle.std.specs.Prelude.{ℕ, List}
use Rattle.hprof_numbers.specs.declared.numbered.Numbered.{Numbered}

-- the nodes, in ascending order
abbrev pub nodes_in : Numbered → List ℕ
nodes_in numbered = numbered.nodes.items
