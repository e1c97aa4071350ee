-- What stored objects hold of the parts that were read.
use Rattle.std.specs.Prelude.{◌≡◌, ◌≤◌, ◌∷◌, ◌++◌, [], ℕ, List, length, map, Option}
use Rattle.hprof_devices.specs.declared.health.Health.{Health}
use Rattle.hprof_stream.specs.declared.limits.Limits.{Limits}
use Rattle.hprof_merge.specs.Rows.{ByteRow}
use Rattle.hprof_merge.specs.TwoContents.{HasEnoughOf}
use Rattle.hprof_runs.specs.Runs.{HoldsRuns, run_count, scratch_of}
use Rattle.hprof_runs.specs.RowsIn.{sorted_in}
use Rattle.hprof_objects.specs.declared.stored_objects.StoredObjects.{StoredObjects}
use Rattle.hprof_objects.specs.Cuts.{CutInto, all_rows}
use Rattle.hprof_objects.specs.PartsRead.{PartRead, rows_of_part}
use Rattle.hprof_objects.specs.ReadAgain.{IsSameAt}
use Rattle.hprof_objects.specs.Stretches.{AreStretches}

-- the objects of each part
abbrev pub objects_of : List PartRead → List (List ByteRow)
objects_of parts = map rows_of_part parts

-- the scratch of stored objects
abbrev pub scratch_under : {S : Type 0} → StoredObjects S → S
scratch_under objects = scratch_of objects.runs

-- no row is in memory or in a run, and there is at most one stretch
pub record IsOneStretch {S : Type 0} (objects : StoredObjects S) : Type 0 where
  pub no_rows : sorted_in objects.rows ≡ []
  pub no_runs : run_count objects.runs ≡ 0
  pub one : length objects.stretches.items ≤ 1

module _ {S : Type 0} (written : S → Option (List ℕ)) (health : S → Health) (limits : Limits) where
  -- the rows in memory, the runs and the stretches are enough of the objects of these parts, and the cuts are those of the stretches
  pub record HoldsObjects (parts : List PartRead) (objects : StoredObjects S) : Type 0 where
    pub runs : List (List ByteRow)
    pub are_runs : HoldsRuns written health objects.runs runs
    pub lists : List (List ByteRow)
    pub are_stretches : AreStretches limits parts objects.stretches.items lists
    pub enough : HasEnoughOf (objects_of parts) (sorted_in objects.rows ∷ (runs ++ lists))
    pub cut : CutInto limits parts objects.cuts.items (all_rows lists)

  -- the same, and each part is the same as when it was read
  --   told: the bytes of each part now, where they are told
  pub record AreToldAgain (told : List (Option (List ℕ))) (parts : List PartRead) (objects : StoredObjects S) : Type 0 where
    pub holds : HoldsObjects parts objects
    pub same : (number : ℕ) → IsSameAt limits told parts number
