use Rattle.std.proofs.Common.{◌≡◌, ◌++◌}
use Rattle.hprof_tables.specs.Pages.{rows_along}
use Rattle.hprof_tables.specs.SortedTable.{entries_of}
use Rattle.hprof_tables.proofs.sorted_table.SortedTable.copied_rows.Given as goal

-- the rows that were copied, and those of the pages that are still to come, are all
abbrev pub invariant-loop-number : goal.invariant-loop-number
invariant-loop-number g l = l.rows.items ++ rows_along l.self.pages.items l.number-iterator ≡ entries_of l.self
