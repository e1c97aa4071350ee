use Rattle.std.proofs.Common.{map}
use Rattle.hprof_by_label.specs.RowValues.{AreRowsTo, row_value}
use Rattle.hprof_by_label.proofs.row.rows_of.Given as goal

-- the rows of the labels so far
abbrev pub invariant-loop-number : goal.invariant-loop-number
invariant-loop-number l =
    AreRowsTo l.labels l.own.bytes.items l.own.counts.items l.retained l.number (map row_value l.rows.items)
