use Rattle.hprof_heap.specs.ObjectDump.{fact_of_object}
use Rattle.hprof_edges.specs.LeftOut.{fields_in}
use Rattle.hprof_reach.specs.EdgesSoFar.{IsKeptOf}
use Rattle.hprof_reach.specs.Graph.{targets_in}
use Rattle.hprof_reach.proofs.TargetLists.{put_behind}
use Rattle.hprof_reach.proofs.heap_graph.HeapGraph.put_object_targets.Goals as goal

pub returns-clause-put : goal.returns-clause-put
returns-clause-put c = λ facts knows.
    let graph = c.args.self.now in
    put_behind (IsKeptOf c.args.ids facts (fields_in graph.left_out.now) (fact_of_object c.args.dump.now)) (targets_in graph)
    c.kept_object_edges.new.into.list.items
    (λ edges held. c.in_ok-kept_object_edges.ensures.holds facts edges knows held)
