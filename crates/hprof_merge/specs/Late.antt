-- Rows that come in order, and rows that come late.
use Rattle.std.specs.Prelude.{ℕ, List, [], ◌∷◌, nat_lt, if◌then◌else◌}
use Rattle.hprof_merge.specs.Rows.{ByteRow}

-- the rows whose keys are above this one, and above all keys before
abbrev pub in_order_above : ℕ → List ByteRow → List ByteRow
in_order_above key [] = []
in_order_above key (row ∷ rows) = if nat_lt key row.0 then row ∷ in_order_above row.0 rows else in_order_above key rows

-- all others
abbrev pub late_above : ℕ → List ByteRow → List ByteRow
late_above key [] = []
late_above key (row ∷ rows) = if nat_lt key row.0 then late_above row.0 rows else row ∷ late_above key rows

-- the rows in order: the first, and each whose key is above all keys before
abbrev pub rows_in_order : List ByteRow → List ByteRow
rows_in_order [] = []
rows_in_order (first ∷ rows) = first ∷ in_order_above first.0 rows

-- the late rows: all others
abbrev pub late_rows : List ByteRow → List ByteRow
late_rows [] = []
late_rows (first ∷ rows) = late_above first.0 rows
