-- The rows that cursors show, as they go on.
use Rattle.std.specs.Prelude.{◌≡◌, ◌<◌, ℕ, List, [], ◌∷◌, length, map, Option, Some, None, slice_index_or, slice_set}
use Rattle.std.specs.List.{HoldsAt}
use Rattle.hprof_merge.specs.Rows.{ByteRow}
use Rattle.hprof_merge.specs.Union.{rows_at}

-- a row alone, or none
abbrev pub only : Option ByteRow → List ByteRow
only None = []
only (Some row) = row ∷ []

-- the rows that are shown, cursor by cursor
abbrev pub all_shown : {C : Type 0} → (C → Option ByteRow) → List C → List (List ByteRow)
all_shown shown cursors = map (λ cursor. only (shown cursor)) cursors

-- the cursor at a place went on by a row
pub record GoesAt {C : Type 0} (goes : C → C → Type 0) (place : ℕ) (old new : List C) : Type 0 where
  pub next : C
  pub is : new ≡ slice_set old place next
  pub goes_on : HoldsAt (λ cursor. goes cursor next) old place

module _ {C : Type 0} (shown : C → Option ByteRow) (goes : C → C → Type 0) where
  -- the cursor showed these rows, one after another, and went on from each
  abbrev pub Shows : C → List ByteRow → C → Type 0
  Shows old [] new = old ≡ new
  Shows old (row ∷ rows) new = (shown old ≡ Some row) × ((mid : C) × goes old mid × Shows mid rows new)

  -- each cursor showed the rows of its list, and went on from each
  pub record AllShow (old new : List C) (came : List (List ByteRow)) : Type 0 where
    pub count : length new ≡ length old
    pub lists : length came ≡ length old
    pub each : (place : ℕ) (cursor : C) → place < length old
        → Shows (slice_index_or old place cursor) (rows_at came place) (slice_index_or new place cursor)
