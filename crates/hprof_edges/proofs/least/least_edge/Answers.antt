use Rattle.std.proofs.Common.{[]}
use Rattle.hprof_heap.specs.HeapFacts.{facts_of, size_of}
use Rattle.hprof_edges.specs.Edges.{AnyEdge}
use Rattle.hprof_edges.specs.LeftOut.{IsKept, fields_in}
use Rattle.hprof_edges.proofs.LeastEdges.{keeps_none, least_by, least_of_same}
use Rattle.hprof_edges.proofs.LeftOutEdges.{all_kept}
use Rattle.hprof_edges.proofs.least.least_edge.Goals as goal

pub returns-clause-kept : goal.returns-clause-kept
returns-clause-kept c = λ knows.
    least_by (IsKept (fields_in c.args.left_out.now) (facts_of c.args.heap.now)) (size_of c.args.heap.now) (facts_of c.args.heap.now)
    c.args.from c.args.to c.known_edges.new.into (c.in_ok-known_edges.ensures.holds [] knows (keeps_none c.args.to))
    c.in_ok-known_edges.ensures.keeps

pub returns-clause-all : goal.returns-clause-all
returns-clause-all c = λ knows none.
    let fields = fields_in c.args.left_out.now in
    let ids = size_of c.args.heap.now in
    let facts = facts_of c.args.heap.now in
    let least = c.known_edges.new.into in
    least_of_same (IsKept fields facts) AnyEdge ids facts (λ edge is. (λ kept. tt, λ any. all_kept fields facts edge none))
    c.args.from c.args.to least.edge (least_by (IsKept fields facts) ids facts c.args.from c.args.to least
    (c.in_ok-known_edges.ensures.holds [] knows (keeps_none c.args.to)) c.in_ok-known_edges.ensures.keeps)
