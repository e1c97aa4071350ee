use Rattle.hprof_heap.specs.HeapFacts.{facts_of}
use Rattle.hprof_holders.proofs.RootObjects.{from_there, own_there, threads_there}
use Rattle.hprof_holders.proofs.who_objects.objects_of_who.Goals as goal

pub returns-clause-own : goal.returns-clause-own
returns-clause-own c =
    let grows = c.in_ok-push_root_threads.ensures.grows in
    own_there c.new-nodes.result.items c.push.new.self.items c.push_froms.new.nodes.items c.push_root_threads.new.nodes.items
    c.sort_once.new.nodes.items grows.0 c.args.id c.args.edges.now c.in_ok-push.ensures.items c.in_ok-push_froms.ensures grows.1
    c.in_ok-sort_once.ensures.same

pub returns-clause-froms : goal.returns-clause-froms
returns-clause-froms c =
    let grows = c.in_ok-push_root_threads.ensures.grows in
    from_there c.new-nodes.result.items c.push.new.self.items c.push_froms.new.nodes.items c.push_root_threads.new.nodes.items
    c.sort_once.new.nodes.items grows.0 c.args.id c.args.edges.now c.in_ok-push.ensures.items c.in_ok-push_froms.ensures grows.1
    c.in_ok-sort_once.ensures.same

pub returns-clause-threads : goal.returns-clause-threads
returns-clause-threads c =
    let grows = c.in_ok-push_root_threads.ensures.grows in
    threads_there c.new-nodes.result.items c.push.new.self.items c.push_froms.new.nodes.items c.push_root_threads.new.nodes.items
    c.sort_once.new.nodes.items grows.0 c.args.id c.args.edges.now c.in_ok-push.ensures.items c.in_ok-push_froms.ensures grows.1
    c.in_ok-sort_once.ensures.same (facts_of c.args.heap.now) c.in_ok-push_root_threads.ensures.has
