-- Several lists of rows, and all of their rows as one list.
use Rattle.std.specs.Prelude.{◌↔◌, ◌<◌, ◌≤◌, ℕ, List, [], slice_index_or}
use Rattle.hprof_merge.specs.Rows.{ByteRow, Has, IsAscending}

-- the list at a place, and past the last a list without rows
abbrev pub rows_at : List (List ByteRow) → ℕ → List ByteRow
rows_at lists place = slice_index_or lists place []

-- one of the lists has the row
abbrev pub AnyHas : List (List ByteRow) → ByteRow → Type 0
AnyHas lists row = (place : ℕ) × Has (rows_at lists place) row

-- no list has a row below the key
abbrev pub AllFrom : ℕ → List (List ByteRow) → Type 0
AllFrom key lists = (row : ByteRow) → AnyHas lists row → key ≤ row.0

-- each of the lists ascends
abbrev pub AllAscend : List (List ByteRow) → Type 0
AllAscend lists = (place : ℕ) → IsAscending (rows_at lists place)

-- all rows of the lists in order of key, each once: it ascends, and has exactly the rows that one of the lists has
pub record IsUnion (lists : List (List ByteRow)) (all : List ByteRow) : Type 0 where
  pub ascends : IsAscending all
  pub same : (row : ByteRow) → Has all row ↔ AnyHas lists row

-- those of the rows whose keys are below a bound, in order of key, each once
pub record IsUnionBelow (lists : List (List ByteRow)) (bound : ℕ) (front : List ByteRow) : Type 0 where
  pub ascends : IsAscending front
  pub same : (row : ByteRow) → Has front row ↔ (AnyHas lists row × (row.0 < bound))

-- the same rows, in however many lists
abbrev pub HaveSameRows : List (List ByteRow) → List (List ByteRow) → Type 0
HaveSameRows lists others = (row : ByteRow) → AnyHas lists row ↔ AnyHas others row
