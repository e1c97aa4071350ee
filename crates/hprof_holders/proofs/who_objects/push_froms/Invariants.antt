use Rattle.std.proofs.Common.{◌≡◌, ◌++◌, length, map}
use Rattle.hprof_edges.specs.declared.edge.Edge.{Edge}
use Rattle.hprof_holders.proofs.who_objects.push_froms.Given as goal

abbrev pub invariant-loop-edge : goal.invariant-loop-edge
invariant-loop-edge l =
    l.nodes.items ++ map (λ (edge : Edge). edge.from) l.rest ≡ l.fn.nodes.items ++ map (λ (edge : Edge). edge.from) l.edges

abbrev pub decreases-loop-edge : goal.decreases-loop-edge
decreases-loop-edge l = length l.rest
