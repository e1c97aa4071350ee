-- What iterators over rows have left.
use Rattle.std.specs.Prelude.{ℕ, List}
use Rattle.hprof_tables.specs.declared.rows.Rows.{Rows}
use Rattle.hprof_tables.specs.PlacedRows.{rows_at}
use Rattle.hprof_tables.specs.SortedTable.{entries_left}

-- the rows that are still to come, with their keys
abbrev pub rows_left : {V : Type 0} → Rows V → List (ℕ × V)
rows_left rows = rows_at rows.rows.now (entries_left rows.entries)
