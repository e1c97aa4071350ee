use Rattle.std.proofs.Common.{[], ap, ◌∙◌}
use Rattle.hprof_heap.specs.HeapFacts.{facts_of, size_of}
use Rattle.hprof_edges.specs.LeftOut.{IsKept, fields_in}
use Rattle.hprof_reach.proofs.TargetLists.{led_to}
use Rattle.hprof_reach.proofs.heap_graph.HeapGraphGraph.targets_of.Goals as goal

pub returns-clause-ok : goal.returns-clause-ok
returns-clause-ok c =
    let graph = c.args.self.now in
    let put = c.in_ok-put_targets.ensures.put [] c.clear.ensures.items in
    led_to (IsKept (fields_in graph.left_out.now) (facts_of graph.heap.now)) (size_of graph.heap.now) (facts_of graph.heap.now)
    c.args.from put.more c.swap.new.y.items (ap (λ (list : _). list.items) c.swap.ensures.y_after ∙ put.holds_more) put.exact
