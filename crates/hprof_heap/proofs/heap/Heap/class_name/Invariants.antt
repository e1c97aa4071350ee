use Rattle.hprof_tables.specs.Relation.{rows_of}
use Rattle.hprof_tables.specs.Rows.{rows_left}
use Rattle.hprof_heap.proofs.ClassName.{Passed}
use Rattle.hprof_heap.proofs.heap.Heap.class_name.Given as goal

abbrev pub invariant-loop-serial : goal.invariant-loop-serial
invariant-loop-serial l = Passed l.fn.class (rows_of l.fn.self.tables.loads) (rows_left l._serial-iterator)
