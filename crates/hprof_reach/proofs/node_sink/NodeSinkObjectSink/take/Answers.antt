use Rattle.std.proofs.Common.{subst}
use Rattle.hprof_items.specs.FactValue.{value_of}
use Rattle.hprof_heap.specs.Objects.{IsObject}
use Rattle.hprof_reach.specs.Nodes.{GivesObject}
use Rattle.hprof_reach.proofs.TableNodes.{gives_object, same_given}
use Rattle.hprof_reach.proofs.node_sink.NodeSinkObjectSink.take.Goals as goal

pub returns-in_ok-push_node-clause-takes : goal.returns-in_ok-push_node-clause-takes
returns-in_ok-push_node-clause-takes c =
    let fact = value_of c.args.object.now in
    let is = subst (IsObject c.id_of.result) c.in-Some.ensures.found c.id_of.ensures in
    same_given _ (GivesObject fact) c.args.self.now.nodes.items c.push_node.new.nodes.items
    (λ id. let both = gives_object c.id_of.result fact is id in (both.1, both.0)) c.in_ok-push_node.ensures
