use Rattle.hprof_heap.specs.HeapFacts.{facts_of}
use Rattle.hprof_why.proofs.HowReached.{path_there}
use Rattle.hprof_why.proofs.why_objects.push_path.Goals as goal

pub returns-clause-has : goal.returns-clause-has
returns-clause-has c =
    path_there (facts_of c.args.heap.now) c.args.nodes.now.items c.extend_from_slice.new.self.items c.push_root_threads.new.nodes.items
    c.args.path.now c.in-Some._rest.now c.in-Some.first.now c.in_ok-extend_from_slice.ensures.items c.in-Some.ensures.cases.0
    c.push_root_threads.result c.push_root_threads.ensures.grows c.push_root_threads.ensures.has
