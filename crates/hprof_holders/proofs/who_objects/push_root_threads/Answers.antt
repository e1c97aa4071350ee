use Rattle.std.proofs.lemmas.Result.{on_ok_weaker}
use Rattle.hprof_heap.specs.HeapFacts.{facts_of}
use Rattle.hprof_holders.proofs.RootObjects.{of_all_roots}
use Rattle.hprof_holders.proofs.who_objects.push_root_threads.Goals as goal

pub returns-clause-has : goal.returns-clause-has
returns-clause-has c =
    let facts = facts_of c.args.heap.now in
    on_ok_weaker c.push_threads.result
    (of_all_roots facts c.args.id c.in_ok-roots.roots.items c.deref.result.now c.push_threads.new.nodes.items c.in_ok-roots.ensures
    c.deref.ensures.value) c.push_threads.ensures.has
