use Rattle.hprof_heap.specs.HeapFacts.{facts_of, size_of}
use Rattle.hprof_edges.specs.Edges.{AnyEdge}
use Rattle.hprof_edges.specs.LeftOut.{IsKept, fields_in}
use Rattle.hprof_edges.proofs.LeftOutEdges.{all_kept}
use Rattle.hprof_reach.proofs.Choices.{same_reach}
use Rattle.hprof_reach.proofs.reach.reach_of.Goals as goal

pub returns : goal.returns
returns c =
    let fields = fields_in c.none.result in
    let facts = facts_of c.args.heap.now in
    same_reach (IsKept fields facts) AnyEdge (size_of c.args.heap.now) facts
    (λ edge is. (λ kept. tt, λ any. all_kept fields facts edge c.none.ensures)) c.in_ok-reach.reach c.in_ok-reach.ensures
