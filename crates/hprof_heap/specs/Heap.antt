-- What a heap shows.
use Rattle.hprof_heap.specs.declared.heap.Heap.{Heap}
use Rattle.hprof_heap.specs.Tables.{rows_in_tables}
use Rattle.hprof_rows.specs.HeapRows.{HeapRows, heap_of_rows}
use Rattle.hprof_rows.specs.HeapValue.{HeapValue}

-- the rows of its tables
abbrev pub rows_in : Heap → HeapRows
rows_in heap = rows_in_tables heap.tables

-- a heap as a value: its size, its time, and the facts of its tables, one after the other
abbrev pub heap_of : Heap → HeapValue
heap_of heap = heap_of_rows (rows_in heap)
