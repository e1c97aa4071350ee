-- Rows in memory, and behind them in scratch.
use Rattle.std.specs.Prelude.{◌≡◌, ◌++◌, ℕ, Bool, true, false, List, [], ◌∷◌, Option}
use Rattle.hprof_devices.specs.declared.health.Health.{Health}
use Rattle.hprof_merge.specs.Rows.{ByteRow}
use Rattle.hprof_merge.specs.Union.{AnyHas}
use Rattle.hprof_runs.specs.declared.runs.Runs.{Runs}
use Rattle.hprof_runs.specs.RowsIn.{rows_in}
use Rattle.hprof_runs.specs.Runs.{AddsRuns, KeepsRuns, scratch_of}
use Rattle.hprof_objects.specs.declared.row_store.RowStore.{RowStore}
use Rattle.hprof_objects.specs.Enough.{IsEnough}

-- the rows in memory
abbrev pub rows_of_store : {S : Type 0} → RowStore S → List ByteRow
rows_of_store store = rows_in store.rows

-- the runs in scratch
abbrev pub runs_of_store : {S : Type 0} → RowStore S → Runs S
runs_of_store store = store.runs

abbrev pub scratch_of_store : {S : Type 0} → RowStore S → S
scratch_of_store store = scratch_of store.runs

-- the row is the last one, behind those that were there; or alone, if they went to scratch
abbrev pub StandsLast : Bool → List ByteRow → ByteRow → List ByteRow → Type 0
StandsLast false memory row after = after ≡ memory ++ row ∷ []
StandsLast true memory row after = after ≡ row ∷ []

module _ {S : Type 0} (written : S → Option (List ℕ)) (health : S → Health) where
  -- of these rows enough went to scratch, behind the runs that were there
  pub record Spills (rows : List ByteRow) (old new : Runs S) : Type 0 where
    pub lists : List (List ByteRow)
    pub adds : AddsRuns written health old new lists
    pub enough : IsEnough rows (AnyHas lists)

  -- the row stands behind the others in memory; or these went to scratch before, and it is alone
  abbrev pub Pushes : Bool → RowStore S → ByteRow → RowStore S → Type 0
  Pushes false old row new = (rows_of_store new ≡ rows_of_store old ++ row ∷ []) × KeepsRuns written health old.runs new.runs
  Pushes true old row new = (rows_of_store new ≡ row ∷ []) × Spills (rows_of_store old) old.runs new.runs
