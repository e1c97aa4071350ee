use Rattle.hprof_heap.specs.Heap.{rows_in}
use Rattle.hprof_rows.proofs.Differing.{NoneBelow}
use Rattle.hprof_heap.proofs.heap.Heap.first_difference.Given as goal

-- no table so far differs
abbrev pub invariant-loop-table : goal.invariant-loop-table
invariant-loop-table l = NoneBelow (rows_in l.fn.self) (rows_in l.fn.other) l.table-index
