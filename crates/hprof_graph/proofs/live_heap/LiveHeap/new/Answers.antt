use Rattle.std.proofs.Common.{Bool, ap}
use Rattle.hprof_edges.specs.declared.edge.Edge.{Edge}
use Rattle.hprof_graph.proofs.live_heap.LiveHeap.new.Goals as goal

pub returns-clause-watches : goal.returns-clause-watches
returns-clause-watches c = λ id. record {
  current = c.wanting.ensures.current;
  keeps = λ edge to. ap (λ (keeps : Edge → Bool). keeps edge) c.wanting.ensures.keeps;
}
