use Rattle.std.specs.Prelude.{◌↔◌}
use Rattle.std.proofs.Common.{◌≤◌, ℕ}
use Rattle.hprof_numbers.specs.Numbered.{nodes_in}
use Rattle.hprof_numbers.specs.Numbers.{bound_of, items_in}
use Rattle.hprof_numbers.proofs.Targets.{HasEdges}
use Rattle.hprof_numbers.proofs.edges.numbered_edges.Given as goal

-- the nodes so far have their lists
abbrev pub invariant-loop-number : goal.invariant-loop-number
invariant-loop-number g l = record {
  edges : HasEdges (g.G.Graph.leads l.fn.graph) (nodes_in l.nodes) l.other (items_in l.ends) (items_in l.items) l.number;
  stays : (node to : ℕ) → g.G.Graph.leads l.graph node to ↔ g.G.Graph.leads l.fn.graph node to;
  stands : g.G.Graph.stands l.graph;
  bound : l.most ≤ bound_of l.items;
}
