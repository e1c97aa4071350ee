use Rattle.hprof_heap.specs.HeapFacts.{size_of}
use Rattle.hprof_edges.specs.LeftOut.{fields_in}
use Rattle.hprof_reach.proofs.by_passes.reach_over.Goals as goal

pub returns-in-Ok : goal.returns-in-Ok
returns-in-Ok g c = (
  c.in_ok-graph.ensures.graph.0,
  λ all make. c.in-Ok.ensures (fields_in c.args.left_out.now) (size_of c.args.heap.now) all (c.in_ok-graph.ensures.graph.1 all make),
)
