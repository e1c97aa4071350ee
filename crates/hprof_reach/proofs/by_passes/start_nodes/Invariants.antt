use Rattle.std.proofs.Common.{[]}
use Rattle.hprof_numbers.specs.Numbers.{items_in}
use Rattle.hprof_reach.specs.NumberedGraph.{node_at}
use Rattle.hprof_reach.proofs.NumberedTargets.{PutsPassed}
use Rattle.hprof_reach.proofs.by_passes.start_nodes.Given as goal

abbrev pub invariant-loop-place : goal.invariant-loop-place
invariant-loop-place l = PutsPassed (node_at l.graph) (items_in l.graph.starts) 0 [] l.place l.starts.items
