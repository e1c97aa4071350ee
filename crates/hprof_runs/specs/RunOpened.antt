-- The bytes of a run that was opened.
use Rattle.std.specs.Prelude.{◌≡◌, ◌+◌, ◌≤◌, ℕ, List, length, take, drop, Option, Some}
use Rattle.hprof_runs.specs.declared.run.Run.{Run}
use Rattle.hprof_runs.specs.declared.run_bytes.RunBytes.{RunBytes}
use Rattle.hprof_runs.specs.RunBytes.{Brings}

-- where the scratch tells its bytes, those of the run are still to come
abbrev pub BeginsRun : {S : Type 0} → (S → Option (List ℕ)) → S → Run → RunBytes S → Type 0
BeginsRun written scratch run it = (all : List ℕ) → written scratch ≡ Some all → run.at + run.len ≤ length all
    → Brings written it (take run.len (drop run.at all))
