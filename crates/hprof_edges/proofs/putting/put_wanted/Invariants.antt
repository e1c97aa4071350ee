use Rattle.std.proofs.Common.{◌≡◌, ◌+◌, List, length}
use Rattle.hprof_values.specs.Lists.{identifiers_left, identifiers_of}
use Rattle.hprof_edges.specs.declared.edge.Via.TheVariants as vias
use Rattle.hprof_edges.specs.declared.edge.Edge.{Edge}
use Rattle.hprof_edges.specs.EdgeLists.{numbered}
use Rattle.hprof_edges.proofs.PutTogether.{Putting}
use Rattle.hprof_edges.proofs.putting.put_wanted.Given as goal

abbrev pub invariant-loop-to : goal.invariant-loop-to
invariant-loop-to g l = record {
  put : (edges : List Edge) → g.C.Collect.holds l.fn.into edges → Putting (g.C.Collect.holds l.into) edges
      (numbered l.array vias.Element 0 (identifiers_of l.fn.elements))
      (numbered l.array vias.Element l.position (identifiers_left l.to-iterator));
  keeps : g.C.Collect.keeps l.into ≡ g.C.Collect.keeps l.fn.into;
  count : l.position + length (identifiers_left l.to-iterator) ≡ length (identifiers_of l.fn.elements);
}
