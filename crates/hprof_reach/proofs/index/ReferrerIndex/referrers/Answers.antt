use Rattle.std.proofs.Common.{ap, ◌∙◌}
use Rattle.hprof_heap.specs.HeapFacts.{facts_of, size_of}
use Rattle.hprof_edges.specs.Collecting.{is_edge_wanted}
use Rattle.hprof_edges.proofs.KeptEdges.{none_to_zero}
use Rattle.hprof_reach.proofs.Froms.{sorted_referrers}
use Rattle.hprof_reach.proofs.index.ReferrerIndex.referrers.Goals as goal

pub returns-then-id-eq0 : goal.returns-then-id-eq0
returns-then-id-eq0 c = λ is_index.
    none_to_zero (size_of c.args.heap.now) (facts_of c.args.heap.now) c.args.id c.new.result.items c.if-id-eq0.true c.new.ensures.items

pub returns : goal.returns
returns c = λ is_index.
    let put = c.in_ok-put_of_sources.ensures in
    sorted_referrers (size_of c.args.heap.now) (facts_of c.args.heap.now) c.put_of_sources.new.set c.args.id
    c.sort_edges.new.edges.items (put.put is_index c.new-set.ensures.none)
    (put.keeps ∙ ap is_edge_wanted c.new-set.ensures.wanted) c.sort_edges.ensures.ascend c.sort_edges.ensures.same
