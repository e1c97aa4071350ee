use Rattle.std.proofs.Common.{sym, subst, ap, ◌∙◌}
use Rattle.hprof_rows.specs.HeapRows.{AreHeap, heap_of_rows}
use Rattle.hprof_heap.specs.Heap.{rows_in}
use Rattle.hprof_heap.proofs.OtherTables.{others_are, others_heap}
use Rattle.hprof_heap.proofs.heap.Heap.without_objects.Goals as goal

pub invariant_of-result : goal.invariant_of-result
invariant_of-result c =
    let heap = c.args.self.now in
    record { sound = subst AreHeap (sym c.in_ok-tables.ensures) (others_are (rows_in heap) heap.sound) }

pub returns : goal.returns
returns c =
    let heap = c.args.self.now in
    ap heap_of_rows c.in_ok-tables.ensures ∙ others_heap (rows_in heap) heap.sound
