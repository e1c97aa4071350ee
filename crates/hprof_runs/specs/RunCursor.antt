-- What a cursor over a run shows.
use Rattle.std.specs.Prelude.{◌≡◌, ◌<◌, ℕ, List, ◌∷◌, Option, Some}
use Rattle.std.specs.Option.{option_map}
use Rattle.hprof_merge.specs.Rows.{ByteRow, IsAscending}
use Rattle.hprof_runs.specs.declared.run.Run.{Run}
use Rattle.hprof_runs.specs.declared.run_cursor.RunCursor.{RunCursor}
use Rattle.hprof_runs.specs.declared.run_fault.RunFault.{RunFault}
use Rattle.hprof_runs.specs.Header.{RowsToCome, row_read}
use Rattle.hprof_runs.specs.RunBytes.{scratch_under}
use Rattle.hprof_runs.specs.RunFault.{IfDamaged, IfReadFailed}
use Rattle.hprof_runs.specs.RunOf.{IsRunOf}
use Rattle.hprof_runs.specs.Spelling.{AllFit}

-- the row that it shows, and none at its end
abbrev pub run_shown : {S : Type 0} → RunCursor S → Option ByteRow
run_shown it = option_map (λ header. row_read header it.bytes) it.shown

-- the scratch that it reads
abbrev pub scratch_of_run : {S : Type 0} → RunCursor S → S
scratch_of_run it = scratch_under it.bytes

module _ {S : Type 0} (written : S → Option (List ℕ)) where
  -- the scratch tells its bytes, and the row that is shown and those behind it are these
  pub record ComesTo (it : RunCursor S) (rows : List ByteRow) : Type 0 where
    pub to_come : RowsToCome written it.shown it.bytes rows
    pub ascends : IsAscending rows
    pub fit : AllFit rows

  -- it went on: to a higher key, and past the row that it showed, in the same scratch
  pub record GoesOn (old new : RunCursor S) : Type 0 where
    pub above : (row next : ByteRow) → run_shown old ≡ Some row → run_shown new ≡ Some next → row.0 < next.0
    pub behind : (row : ByteRow) (rest : List ByteRow) → ComesTo old (row ∷ rest) → ComesTo new rest
    pub same_scratch : scratch_of_run new ≡ scratch_of_run old

  -- a damage: the bytes of the scratch are not told, or are not those of rows in order; a read that failed: reads of the scratch may fail
  pub record FailsRun (unreadable : S → Type 0) (old : RunCursor S) (fault : RunFault) (new : RunCursor S) : Type 0 where
    pub damaged : IfDamaged fault ((rows : List ByteRow) → ComesTo old rows → ⊥)
    pub read : IfReadFailed fault (unreadable (scratch_of_run old))

  -- if the scratch tells its bytes, and the run spells rows, these come
  abbrev pub OpensRun : S → Run → RunCursor S → Type 0
  OpensRun scratch run it = (all : List ℕ) → written scratch ≡ Some all → (rows : List ByteRow) → IsRunOf all run rows → ComesTo it rows

  abbrev pub RefusesRun : S → Run → RunFault → Type 0
  RefusesRun scratch run fault = IfDamaged fault ((all : List ℕ) → written scratch ≡ Some all → (rows : List ByteRow)
      → IsRunOf all run rows → ⊥)
