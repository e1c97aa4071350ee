use Rattle.std.proofs.Common.{◌≡◌, Bor, List, drop, rules}
use Rattle.hprof_edges.specs.declared.edge.Edge.{Edge}
use Rattle.hprof_edges.specs.EdgeSet.{edges_in}
use Rattle.hprof_graph.specs.LiveHeap.{outcome_of}
use Rattle.hprof_graph.proofs.Outcomes.{answer_mapped}
use Rattle.hprof_graph.proofs.live_heap.LiveHeap.lend_edges.Goals as goal

pub returns : goal.returns
returns c =
    answer_mapped (λ ids facts (edges : Bor (List Edge)). edges.now ≡ drop c.args.start (edges_in c.args.self.now.derived.set)) _
    (λ heap edges gives. search rules) (λ edges gives ids. search rules) (outcome_of c.args.self.now) c.so_far.result c.map.result
    c.so_far.ensures c.map.ensures
