use Rattle.std.proofs.Common.{◌≡◌, List, drop}
use Rattle.hprof_edges.specs.declared.edge.Edge.{Edge}
use Rattle.hprof_edges.specs.EdgeLists.{reference_edges}
use Rattle.hprof_edges.proofs.PutTogether.{Putting}
use Rattle.hprof_edges.proofs.putting.put_references.Given as goal

abbrev pub invariant-loop-reference : goal.invariant-loop-reference
invariant-loop-reference g l = record {
  put : (edges : List Edge) → g.C.Collect.holds l.fn.into edges → Putting (g.C.Collect.holds l.into) edges
      (reference_edges l.instance l.references) (reference_edges l.instance (drop l.reference-index l.references));
  keeps : g.C.Collect.keeps l.into ≡ g.C.Collect.keeps l.fn.into;
}
