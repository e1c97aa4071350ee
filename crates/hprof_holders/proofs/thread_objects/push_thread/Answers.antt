use Rattle.hprof_heap.specs.HeapFacts.{facts_of}
use Rattle.hprof_holders.proofs.PushedThreads.{has_thread, thread_more}
use Rattle.hprof_holders.proofs.thread_objects.push_thread.Goals as goal

pub returns-clause-grows : goal.returns-clause-grows
returns-clause-grows c =
    thread_more c.args.nodes.now.items c.push.new.self.items c.push_held.new.nodes.items c.thread_object-object.result
    c.held_by_thread.result.now c.in_ok-push.ensures.items c.in_ok-push_held.ensures

pub returns-clause-has : goal.returns-clause-has
returns-clause-has c =
    let facts = facts_of c.args.heap.now in
    has_thread c.args.nodes.now.items c.push.new.self.items c.push_held.new.nodes.items c.thread_object-object.result
    c.held_by_thread.result.now c.in_ok-push.ensures.items c.in_ok-push_held.ensures facts c.holds_of_heap.ensures.agree c.args.serial
    (c.thread_object-object.ensures c.requires.roots) (c.held_by_thread.ensures facts c.requires.held)
