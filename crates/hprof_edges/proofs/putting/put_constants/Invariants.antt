use Rattle.std.specs.Prelude.{map}
use Rattle.std.proofs.Common.{◌≡◌, ◌+◌, List, length}
use Rattle.hprof_values.specs.Lists.{entries_left, entries_of}
use Rattle.hprof_values.specs.Value.{constant_of}
use Rattle.hprof_edges.specs.declared.edge.Via.TheVariants as vias
use Rattle.hprof_edges.specs.declared.edge.Edge.{Edge}
use Rattle.hprof_edges.specs.EdgeLists.{numbered, target_of, targets_of_constants}
use Rattle.hprof_edges.proofs.PutTogether.{Putting}
use Rattle.hprof_edges.proofs.putting.put_constants.Given as goal

abbrev pub invariant-loop-constant : goal.invariant-loop-constant
invariant-loop-constant g l = record {
  put : (edges : List Edge) → g.C.Collect.holds l.fn.into edges → Putting (g.C.Collect.holds l.into) edges
      (numbered l.class vias.Constant 0 (targets_of_constants (entries_of l.fn.constants)))
      (numbered l.class vias.Constant l.position (map (λ constant. target_of constant.value.basic constant.value.bits)
      (map constant_of (entries_left l.constant-iterator))));
  keeps : g.C.Collect.keeps l.into ≡ g.C.Collect.keeps l.fn.into;
  count : l.position + length (map constant_of (entries_left l.constant-iterator)) ≡ length (entries_of l.fn.constants);
}
