use Rattle.std.proofs.Common.{◌≡◌, ◌+◌, ◌++◌, ◌≤◌, ℕ, length, vec_capacity, vec_len}
use Rattle.std.specs.Map.{values_of}
use Rattle.hprof_tables.specs.Pages.{AreChained, rows_along}
use Rattle.hprof_tables.proofs.sorted_table.move_rows.Given as goal

-- the rows of the pages that are still to come are those that are wanted behind the others
abbrev pub invariant-loop-number : goal.invariant-loop-number
invariant-loop-number g l =
    record {
      chain : (from : ℕ) × AreChained l.pages.items from l.number-iterator;
      rows : l.rows.items ++ rows_along l.pages.items (values_of l.number-iterator)
          ≡ l.fn.rows.items ++ rows_along l.fn.pages.items (values_of l.fn.places.entries);
      room : vec_len l.rows + length (rows_along l.pages.items (values_of l.number-iterator)) ≤ vec_capacity l.rows;
    }
