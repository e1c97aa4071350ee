use Rattle.std.proofs.Common.{ℕ, List, subst, sym}
use Rattle.std.specs.Prelude.{◌↔◌, Contains}
use Rattle.hprof_heap.specs.declared.heap.Heap.{Heap}
use Rattle.hprof_heap.specs.HeapFacts.{facts_of, size_of}
use Rattle.hprof_edges.specs.declared.left_out.LeftOut.{LeftOut}
use Rattle.hprof_edges.specs.LeftOut.{IsKept, fields_in}
use Rattle.hprof_search.specs.Search.{IsSearch}
use Rattle.hprof_reach.specs.Reaching.{IsRooted, LeadsBy}
use Rattle.hprof_reach.proofs.Reached.{reached}
use Rattle.hprof_reach.proofs.reach.reach_without.Goals as goal

pub returns : goal.returns
returns c =
    let heap = c.args.heap.now in
    let left_out = c.args.left_out.now in
    let nodes = c.in_ok-nodes.nodes.items in
    let starts = c.deref.result.now in
    let search = c.in_ok-search.search in
    let graph = c.in_ok-graph.graph in
    reached (IsKept (fields_in left_out) (facts_of heap)) (size_of heap) (facts_of heap) nodes starts search c.in_ok-nodes.ensures.all
    (subst (λ (l : List ℕ). (id : ℕ) → Contains l id ↔ IsRooted (facts_of heap) id) (sym c.deref.ensures.value) c.in_ok-starts.ensures)
    (subst (λ (table : LeftOut). IsSearch (λ node. Contains nodes node × Contains starts node)
    (λ from to. LeadsBy (IsKept (fields_in table) (facts_of heap)) (size_of heap) (facts_of heap) from to × Contains nodes to) search)
    c.in_ok-graph.ensures.left_out
    (subst (λ (of : Heap). IsSearch (λ node. Contains nodes node × Contains starts node)
    (λ from to. LeadsBy (IsKept (fields_in graph.left_out.now) (facts_of of)) (size_of of) (facts_of of) from to × Contains nodes to)
    search)
    c.in_ok-graph.ensures.heap c.in_ok-search.ensures))
