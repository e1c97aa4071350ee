use Rattle.std.proofs.Common.{◌≡◌, ◌++◌, drop}
use Rattle.std.specs.List.{filter}
use Rattle.hprof_tables.specs.HintedMap.{rows_in}
use Rattle.hprof_histogram.specs.CountedKinds.{class_rows, has_objects}
use Rattle.hprof_histogram.proofs.gathering.push_classes.Given as goal

abbrev pub invariant-loop-row : goal.invariant-loop-row
invariant-loop-row l = l.rows.items ++ filter has_objects (class_rows (drop l.row-index l.row-items))
    ≡ l.fn.rows.items ++ filter has_objects (class_rows (rows_in l.classes))
