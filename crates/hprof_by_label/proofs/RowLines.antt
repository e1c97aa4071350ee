-- The lines of rows, one behind the other.
use Rattle.std.specs.Prelude.{map}
use Rattle.std.specs.List.{flat_map}
use Rattle.std.specs.Fmt.{decimal}
use Rattle.std.proofs.Common.{◌≡◌, ◌+◌, ◌<◌, ℕ, List, [], ◌++◌, append_assoc, ap, codes, drop, length, get_or}
use Rattle.hprof_rows.proofs.Tables.{drop_from}
use Rattle.hprof_by_label.specs.RetainedText.{row_line}
use Rattle.hprof_by_label.specs.LabelRows.{RowValue}
use Rattle.hprof_by_label.specs.RowValues.{row_value}
use Rattle.hprof_by_label.specs.declared.row.Row.{Row}

-- stands at each place that has no row
abbrev pub no_row : Row
no_row = record { label = record { ref_ptr = (0, 0); now = [] }; retained = 0; bytes = 0; count = 0 }

abbrev pub lines_of : List Row → List ℕ
lines_of rows = flat_map row_line (map row_value rows)

-- the text of the rows that are left begins with the line of the next
pub next_line : (rows : List Row) (place : ℕ) → place < length rows
    → lines_of (drop place rows) ≡ row_line (row_value (get_or rows place no_row)) ++ lines_of (drop (place + 1) rows)
next_line rows place within = ap lines_of (drop_from rows place no_row within)

regrouped : (retained bytes count label : List ℕ) → retained ++ (codes " " ++ (bytes ++ (codes " " ++ (count ++ (codes " " ++
    (label ++ codes "\n"))))))
    ≡ retained ++ codes " " ++ bytes ++ codes " " ++ count ++ codes " " ++ label ++ codes "\n"
regrouped retained bytes count label = simp append_assoc

pub row_parts : (row : RowValue) → decimal row.retained ++ (codes " " ++ (decimal row.bytes ++ (codes " " ++ (decimal row.count
    ++ (codes " " ++ (row.label ++ codes "\n")))))) ≡ row_line row
row_parts row = regrouped (decimal row.retained) (decimal row.bytes) (decimal row.count) row.label
