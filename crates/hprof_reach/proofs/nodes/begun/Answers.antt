use Rattle.hprof_heap.specs.HeapFacts.{facts_of}
use Rattle.hprof_reach.proofs.Reached.{all_class_nodes}
use Rattle.hprof_reach.proofs.nodes.begun.Goals as goal

pub returns : goal.returns
returns c =
    all_class_nodes (facts_of c.args.heap.now) c.in_ok-nodes.nodes.items c.push_classes.new.nodes.items c.push_classes.new.nodes.items
    c.in_ok-nodes.ensures.items c.in_ok-push_classes.ensures (λ id. (λ has. has, λ has. has))
