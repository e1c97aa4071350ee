use Rattle.hprof_heap.specs.HeapFacts.{facts_of}
use Rattle.hprof_holders.proofs.RootObjects.{own_pushed}
use Rattle.hprof_holders.proofs.who_objects.push_root_thread.Goals as goal

pub returns-clause-has : goal.returns-clause-has
returns-clause-has c =
    own_pushed (facts_of c.args.heap.now) c.holds_of_heap.ensures.agree c.args.root c.in-Some.serial c.thread_object.result
    c.thread_of_root.result c.thread_of_root.ensures c.in-Some.is (c.thread_object.ensures c.requires) c.args.nodes.now.items
    c.push.new.self.items c.in_ok-push.ensures.items
