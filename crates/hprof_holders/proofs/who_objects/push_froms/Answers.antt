use Rattle.std.proofs.Common.{◌++◌, map}
use Rattle.hprof_edges.specs.declared.edge.Edge.{Edge}
use Rattle.hprof_holders.proofs.PushedThreads.{one_appended}
use Rattle.hprof_holders.proofs.who_objects.push_froms.Goals as goal

pub loop-edge-preserved : goal.loop-edge-preserved
loop-edge-preserved c =
    one_appended (λ (edge : Edge). edge.from) c.loop-edge.nodes.items c.push.new.self.items c.in-Some.edge.now c.loop-edge.rest.now
    c.in-Some.after.now (c.args.nodes.now.items ++ map (λ (edge : Edge). edge.from) c.args.edges.now) c.in_ok-push.ensures.items
    c.in-Some.ensures.cases.0 c.loop-edge.invariant
