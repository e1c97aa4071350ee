-- What a cursor does that fails at a late row.
use Rattle.std.specs.Prelude.{◌≡◌, ◌<◌, Option, Some}
use Rattle.hprof_merge.specs.declared.refuse_late.RefuseLate.{RefuseLate}
use Rattle.hprof_merge.specs.declared.skip_late.LateFault.{LateFault}
use Rattle.hprof_merge.specs.declared.skip_late.LateFault.TheVariants.{Inner, Late}
use Rattle.hprof_merge.specs.Rows.{ByteRow}
use Rattle.hprof_merge.specs.Skipping.{ShowsLate}

-- the cursor that it goes over
abbrev pub refusing_over : {C : Type 0} → RefuseLate C → C
refusing_over it = it.cursor

-- the row that it shows
abbrev pub shown_refusing : {C : Type 0} → (C → Option ByteRow) → RefuseLate C → Option ByteRow
shown_refusing shown it = shown it.cursor

-- the cursor below went on, and what it shows then is above what it showed
pub record GoesUp {C : Type 0} (shown : C → Option ByteRow) (goes : C → C → Type 0) (old new : RefuseLate C) : Type 0 where
  pub went : goes old.cursor new.cursor
  pub above : (row next : ByteRow) → shown old.cursor ≡ Some row → shown new.cursor ≡ Some next → row.0 < next.0

-- the cursor below went on to a late row
pub record GoesDown {C : Type 0} (shown : C → Option ByteRow) (goes : C → C → Type 0) (old new : RefuseLate C) : Type 0 where
  pub went : goes old.cursor new.cursor
  pub row : ByteRow
  pub is : shown old.cursor ≡ Some row
  pub late : ShowsLate shown row.0 new.cursor

-- it failed: as the cursor below, or at a late row
abbrev pub fails_refusing : {C F : Type 0} → (C → Option ByteRow) → (C → C → Type 0) → (C → F → C → Type 0) → RefuseLate C → LateFault F
    → RefuseLate C → Type 0
fails_refusing shown goes fails old (Inner fault) new = fails old.cursor fault new.cursor
fails_refusing shown goes fails old Late new = GoesDown shown goes old new
