-- Late rows, as a cursor goes past them.
use Rattle.std.specs.Prelude.{◌≡◌, ◌<◌, ◌≤◌, ℕ, List, Bool, true, false, Option, Some, length}
use Rattle.hprof_merge.specs.Rows.{ByteRow, Has}
use Rattle.hprof_merge.specs.Showing.{Shows}

-- the cursor shows a row whose key is not above this one
abbrev pub ShowsLate : {C : Type 0} → (C → Option ByteRow) → ℕ → C → Type 0
ShowsLate shown key cursor = (row : ByteRow) × (shown cursor ≡ Some row) × (row.0 ≤ key)

module _ {C : Type 0} (shown : C → Option ByteRow) (goes : C → C → Type 0) where
  -- at most so many rows whose keys are not above this one were skipped, up to a row above it or to the end
  pub record IsSkippedTo (key limit : ℕ) (old new : C) : Type 0 where
    pub out : List ByteRow
    pub shows : Shows shown goes old out new
    pub low : (row : ByteRow) → Has out row → row.0 ≤ key
    pub few : length out ≤ limit
    pub high : (next : ByteRow) → shown new ≡ Some next → key < next.0

  -- exactly so many such rows were skipped, and another one is shown
  pub record IsStillLate (key limit : ℕ) (old new : C) : Type 0 where
    pub out : List ByteRow
    pub shows : Shows shown goes old out new
    pub low : (row : ByteRow) → Has out row → row.0 ≤ key
    pub all : length out ≡ limit
    pub late : ShowsLate shown key new

  -- whether none is left
  abbrev pub SkipsOrStays : ℕ → ℕ → Bool → C → C → Type 0
  SkipsOrStays key limit true old new = IsSkippedTo key limit old new
  SkipsOrStays key limit false old new = IsStillLate key limit old new

  -- the cursor failed at such a row, after fewer were skipped
  pub record FailsBehind {F : Type 0} (fails : C → F → C → Type 0) (key limit : ℕ) (old : C) (fault : F) (new : C) : Type 0 where
    pub out : List ByteRow
    pub mid : C
    pub shows : Shows shown goes old out mid
    pub low : (row : ByteRow) → Has out row → row.0 ≤ key
    pub few : length out < limit
    pub late : ShowsLate shown key mid
    pub failed : fails mid fault new

  -- it went on from a row, and skipped what comes behind it and is not above it
  pub record IsNextInOrder (limit : ℕ) (row : ByteRow) (old new : C) : Type 0 where
    pub mid : C
    pub went : goes old mid
    pub skipped : IsSkippedTo row.0 limit mid new

  -- it went on from a row, and too many late rows came behind it
  pub record IsLateBehind (limit : ℕ) (old new : C) : Type 0 where
    pub row : ByteRow
    pub is : shown old ≡ Some row
    pub mid : C
    pub went : goes old mid
    pub late : IsStillLate row.0 limit mid new

  -- it went on from a row, and failed at a late row behind it
  pub record FailsLate {F : Type 0} (fails : C → F → C → Type 0) (limit : ℕ) (old : C) (fault : F) (new : C) : Type 0 where
    pub row : ByteRow
    pub is : shown old ≡ Some row
    pub mid : C
    pub went : goes old mid
    pub behind : FailsBehind fails row.0 limit mid fault new
