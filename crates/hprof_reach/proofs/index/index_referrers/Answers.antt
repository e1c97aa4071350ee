use Rattle.std.proofs.Common.{ℕ, List, Contains, sym, ap, subst, ◌∙◌}
use Rattle.hprof_heap.specs.declared.heap.Heap.{Heap}
use Rattle.hprof_heap.specs.HeapFacts.{facts_of, size_of}
use Rattle.hprof_edges.specs.Edges.{AnyEdge}
use Rattle.hprof_edges.specs.LeftOut.{IsKept, fields_in}
use Rattle.hprof_edges.proofs.LeftOutEdges.{all_kept}
use Rattle.hprof_reach.specs.Reaching.{Leads}
use Rattle.hprof_reach.proofs.Choices.{leads_more}
use Rattle.hprof_reach.proofs.index.index_referrers.Goals as goal

pub returns : goal.returns
returns c = record {
  knows = c.in_ok-known.ensures;
  covers = λ from to node leads.
      let graph = c.in_ok-graph.graph in
      let fields = fields_in graph.left_out.now in
      let facts = facts_of graph.heap.now in
      c.in_ok-sources.ensures.all from to
      (subst (λ (nodes : List ℕ). Contains nodes from) (sym c.in_ok-nodes.ensures) ((c.in_ok-nodes_of.ensures.all from).1 node))
      (leads_more AnyEdge (IsKept fields facts) (size_of graph.heap.now) facts
      (λ edge is any. all_kept fields facts edge (ap fields_in c.in_ok-graph.ensures.left_out ∙ c.none-none.ensures)) from to
      (subst (λ (heap : Heap). Leads (size_of heap) (facts_of heap) from to) (sym c.in_ok-graph.ensures.heap) leads));
}
