-- What holds of a heap that is gone over as a graph.
use Rattle.std.specs.Prelude.{◌↔◌, ℕ, List, Contains}
use Rattle.hprof_heap.specs.HeapFacts.{facts_of, size_of}
use Rattle.hprof_layouts.specs.Known.{Knows}
use Rattle.hprof_numbers.specs.Numbered.{nodes_in}
use Rattle.hprof_reach.specs.declared.heap_graph.HeapGraph.{HeapGraph}
use Rattle.hprof_reach.specs.Nodes.{IsClassNode}

-- the known layouts are those of its facts, and the classes those that have a class dump
pub record TellsEdges (graph : HeapGraph) : Type 0 where
  pub knows : Knows (size_of graph.heap.now) (facts_of graph.heap.now) graph.known
  pub classes : (id : ℕ) → Contains (nodes_in graph.classes) id ↔ IsClassNode (facts_of graph.heap.now) id

-- the targets that were put
abbrev pub targets_in : HeapGraph → List ℕ
targets_in graph = graph.targets.list.items
