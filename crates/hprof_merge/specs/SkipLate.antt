-- What a cursor does that skips late rows.
use Rattle.std.specs.Prelude.{◌≡◌, ◌⊎◌, ℕ, Option, Some}
use Rattle.hprof_merge.specs.declared.skip_late.SkipLate.{SkipLate}
use Rattle.hprof_merge.specs.declared.skip_late.LateFault.{LateFault}
use Rattle.hprof_merge.specs.declared.skip_late.LateFault.TheVariants.{Inner, Late}
use Rattle.hprof_merge.specs.Rows.{ByteRow}
use Rattle.hprof_merge.specs.Skipping.{IsNextInOrder, IsLateBehind, FailsLate}

-- the cursor that it goes over
abbrev pub skipping_over : {C : Type 0} → SkipLate C → C
skipping_over it = it.cursor

-- so many late rows one after another are skipped
abbrev pub skipping_limit : {C : Type 0} → SkipLate C → ℕ
skipping_limit it = it.limit

-- the row that it shows
abbrev pub shown_skipping : {C : Type 0} → (C → Option ByteRow) → SkipLate C → Option ByteRow
shown_skipping shown it = shown it.cursor

-- it went on to the next row that is not late
pub record GoesSkipping {C : Type 0} (shown : C → Option ByteRow) (goes : C → C → Type 0) (old new : SkipLate C) : Type 0 where
  pub limit : new.limit ≡ old.limit
  pub next : (row : ByteRow) → shown old.cursor ≡ Some row → IsNextInOrder shown goes old.limit row old.cursor new.cursor

-- it failed: as the cursor below, at its own row or at a late one behind it; or since too many late rows came behind it
abbrev pub fails_skipping : {C F : Type 0} → (C → Option ByteRow) → (C → C → Type 0) → (C → F → C → Type 0) → SkipLate C → LateFault F
    → SkipLate C → Type 0
fails_skipping shown goes fails old (Inner fault) new =
    fails old.cursor fault new.cursor ⊎ FailsLate shown goes fails old.limit old.cursor fault new.cursor
fails_skipping shown goes fails old Late new = IsLateBehind shown goes old.limit old.cursor new.cursor
