-- Going on to a key.
use Rattle.std.specs.Prelude.{◌≡◌, ◌<◌, ℕ, Bool, true, false, List, Option, Some, None, ⊤}
use Rattle.hprof_merge.specs.Rows.{ByteRow, Has}
use Rattle.hprof_merge.specs.Showing.{Shows}

-- whether a row with the key is shown; if not, the row that is shown is above it
abbrev pub IsFound : ℕ → Bool → Option ByteRow → Type 0
IsFound key true None = ⊥
IsFound key true (Some row) = row.0 ≡ key
IsFound key false None = ⊤
IsFound key false (Some row) = key < row.0

module _ {C : Type 0} (shown : C → Option ByteRow) (goes : C → C → Type 0) where
  -- it showed rows below the key, and went on from each
  pub record ShowsUpTo (key : ℕ) (old new : C) : Type 0 where
    pub passed : List ByteRow
    pub shows : Shows shown goes old passed new
    pub below : (row : ByteRow) → Has passed row → row.0 < key

  -- it showed some rows, went on from each, and failed then
  pub record FailsBehind {F : Type 0} (fails : C → F → C → Type 0) (old : C) (fault : F) (new : C) : Type 0 where
    pub passed : List ByteRow
    pub mid : C
    pub shows : Shows shown goes old passed mid
    pub failed : fails mid fault new
