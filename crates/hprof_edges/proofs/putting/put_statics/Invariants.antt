use Rattle.std.specs.Prelude.{map}
use Rattle.std.proofs.Common.{◌≡◌, ◌+◌, List, length}
use Rattle.hprof_values.specs.Lists.{entries_left, entries_of}
use Rattle.hprof_values.specs.Value.{static_of}
use Rattle.hprof_edges.specs.declared.edge.Via.TheVariants as vias
use Rattle.hprof_edges.specs.declared.edge.Edge.{Edge}
use Rattle.hprof_edges.specs.EdgeLists.{numbered, target_of, targets_of_statics}
use Rattle.hprof_edges.proofs.PutTogether.{Putting}
use Rattle.hprof_edges.proofs.putting.put_statics.Given as goal

abbrev pub invariant-loop-field : goal.invariant-loop-field
invariant-loop-field g l = record {
  put : (edges : List Edge) → g.C.Collect.holds l.fn.into edges → Putting (g.C.Collect.holds l.into) edges
      (numbered l.class vias.Static 0 (targets_of_statics (entries_of l.fn.statics)))
      (numbered l.class vias.Static l.position (map (λ field. target_of field.value.basic field.value.bits)
      (map static_of (entries_left l.field-iterator))));
  keeps : g.C.Collect.keeps l.into ≡ g.C.Collect.keeps l.fn.into;
  count : l.position + length (map static_of (entries_left l.field-iterator)) ≡ length (entries_of l.fn.statics);
}
