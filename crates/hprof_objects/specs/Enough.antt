-- Which rows are enough to merge in place of others.
use Rattle.std.specs.Prelude.{◌≢◌, ◌⊎◌, ℕ, List}
use Rattle.hprof_merge.specs.Rows.{ByteRow, Has}

-- two of the rows have this key and different bytes
--   Kept: the rows
pub record HasTwo (Kept : ByteRow → Type 0) (key : ℕ) : Type 0 where
  pub one : List ℕ
  pub other : List ℕ
  pub has_one : Kept (key, one)
  pub has_other : Kept (key, other)
  pub differ : one ≢ other

-- those that are kept are some of all rows, and each of all rows is kept, or its key has two contents among those that are kept
pub record IsEnough (all : List ByteRow) (Kept : ByteRow → Type 0) : Type 0 where
  pub only : (row : ByteRow) → Kept row → Has all row
  pub each : (row : ByteRow) → Has all row → Kept row ⊎ HasTwo Kept row.0
