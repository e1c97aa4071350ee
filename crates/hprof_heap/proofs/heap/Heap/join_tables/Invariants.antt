use Rattle.std.proofs.Common.{drop}
use Rattle.hprof_heap.specs.Heap.{heap_of}
use Rattle.hprof_heap.proofs.JoinHeaps.{TakesSome}
use Rattle.hprof_heap.proofs.heap.Heap.join_tables.Given as goal

-- the facts of the tables so far are taken
abbrev pub invariant-loop-table : goal.invariant-loop-table
invariant-loop-table l = TakesSome (heap_of l.fn.self) (heap_of l.fn.other) (drop l.table-index l.table-items) (heap_of l.self)
