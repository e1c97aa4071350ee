use Rattle.std.proofs.Common.{◌≡◌, List, drop}
use Rattle.hprof_edges.specs.declared.edge.Via.TheVariants as vias
use Rattle.hprof_edges.specs.declared.edge.Edge.{Edge}
use Rattle.hprof_edges.specs.EdgeLists.{numbered, targets_of_values}
use Rattle.hprof_edges.proofs.PutTogether.{Putting}
use Rattle.hprof_edges.proofs.putting.put_values.Given as goal

abbrev pub invariant-loop-value : goal.invariant-loop-value
invariant-loop-value g l = record {
  put : (edges : List Edge) → g.C.Collect.holds l.fn.into edges → Putting (g.C.Collect.holds l.into) edges
      (numbered l.instance vias.Field 0 (targets_of_values l.values))
      (numbered l.instance vias.Field l.position (targets_of_values (drop l.value-index l.values)));
  keeps : g.C.Collect.keeps l.into ≡ g.C.Collect.keeps l.fn.into;
  count : l.position ≡ l.value-index;
}
