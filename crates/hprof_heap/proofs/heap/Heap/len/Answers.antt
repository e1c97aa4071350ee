use Rattle.std.proofs.Common.{◌∙◌}
use Rattle.hprof_heap.specs.Heap.{rows_in}
use Rattle.hprof_rows.proofs.EachTable.{counted}
use Rattle.hprof_rows.proofs.HeapRows.{table_length}
use Rattle.hprof_heap.proofs.heap.Heap.len.Goals as goal

pub returns : goal.returns
returns c =
    let heap = c.args.self.now in
    table_length (rows_in heap) c.args.table c.len.result heap.sound (c.len.ensures ∙ counted c.args.table (rows_in heap))
