use Rattle.std.proofs.Common.{ℕ, List, subst, sym}
use Rattle.std.specs.Prelude.{◌↔◌, Contains}
use Rattle.hprof_heap.specs.HeapFacts.{facts_of}
use Rattle.hprof_reach.specs.Nodes.{IsClassNode}
use Rattle.hprof_reach.proofs.heap_graph.graph_of.Goals as goal

pub returns-clause-tells : goal.returns-clause-tells
returns-clause-tells c = record {
  knows = c.in_ok-known.ensures;
  classes =
      subst (λ (l : List ℕ). (id : ℕ) → Contains l id ↔ IsClassNode (facts_of c.args.heap.now) id) (sym c.in_ok-classes.ensures)
      c.in_ok-class_nodes.ensures.all;
}
