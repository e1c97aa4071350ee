-- The graph of a heap by numbers: nodes ascend, and the number of a node is its place among them.
use Rattle.std.specs.Prelude.{◌≡◌, ◌<◌, ◌↔◌, ℕ, List, Contains, length, slice_index}
use Rattle.hprof_values.specs.declared.ids.IdSize.{IdSize}
use Rattle.hprof_items.specs.FactValue.{FactValue}
use Rattle.hprof_edges.specs.declared.edge.Edge.{Edge}
use Rattle.hprof_numbers.specs.Lists.{IsListed, LeadsWithin, count_in}
use Rattle.hprof_numbers.specs.Numbered.{nodes_in}
use Rattle.hprof_numbers.specs.Numbers.{items_in}
use Rattle.hprof_reach.specs.Reaching.{IsNode, IsRooted, LeadsBy}
use Rattle.hprof_reach.specs.declared.numbered_graph.NumberedGraph.{NumberedGraph}

-- how many nodes there are
abbrev pub count_of : NumberedGraph → ℕ
count_of graph = length (nodes_in graph.nodes)

-- the node with a number
abbrev pub node_at : NumberedGraph → ℕ → ℕ
node_at graph number = slice_index (nodes_in graph.nodes) number

-- each number in it is that of a node
pub record IsNumbered (graph : NumberedGraph) : Type 0 where
  pub as_many : count_in graph.edges ≡ count_of graph
  pub leads : LeadsWithin graph.edges
  pub starts : (number : ℕ) → Contains (items_in graph.starts) number → number < count_of graph

-- it has the nodes of these facts, the chosen edges between them, and the numbers of those that a root keeps alive
pub record IsGraphBy (P : Edge → Type 0) (ids : IdSize) (facts : List FactValue) (graph : NumberedGraph) : Type 0 where
  pub nodes : (id : ℕ) → Contains (nodes_in graph.nodes) id ↔ IsNode facts id
  pub as_many : count_in graph.edges ≡ count_of graph
  pub leads : LeadsWithin graph.edges
  pub edges : (from to : ℕ) → from < count_of graph → to < count_of graph
      → IsListed graph.edges from to ↔ LeadsBy P ids facts (node_at graph from) (node_at graph to)
  pub starts : (number : ℕ) → Contains (items_in graph.starts) number ↔ ((number < count_of graph) × IsRooted facts (node_at graph number))
