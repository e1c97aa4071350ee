use Rattle.std.proofs.Common.{subst}
use Rattle.hprof_heap.specs.HeapFacts.{facts_of}
use Rattle.hprof_why.specs.WhyObjects.{HasPathObjects}
use Rattle.hprof_why.proofs.HowReached.{own_sorted, path_sorted}
use Rattle.hprof_why.proofs.why_objects.objects_of_why.Goals as goal

pub returns-clause-own : goal.returns-clause-own
returns-clause-own c =
    let grows = c.in_ok-push_path.ensures.grows in
    own_sorted c.new-nodes.result.items c.push.new.self.items c.push_path.new.nodes.items c.sort_once.new.nodes.items grows.0 c.args.id
    c.in_ok-push.ensures.items grows.1 c.in_ok-sort_once.ensures.same

pub returns-clause-path : goal.returns-clause-path
returns-clause-path c =
    let facts = facts_of c.args.heap.now in
    let grows = c.in_ok-push_path.ensures.grows in
    subst (HasPathObjects facts c.sort_once.new.nodes.items) c.nodes_of.ensures
    (path_sorted c.new-nodes.result.items c.push.new.self.items c.push_path.new.nodes.items c.sort_once.new.nodes.items grows.0 c.args.id
    c.in_ok-push.ensures.items grows.1 c.in_ok-sort_once.ensures.same facts c.nodes_of.result.now c.in_ok-push_path.ensures.has)
