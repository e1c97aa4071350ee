-- What a fault of scratch leaves.
use Rattle.std.specs.Prelude.{◌≡◌, ◌+◌, ℕ, List, length, Option, Result, Ok, Err}
use Rattle.std.specs.Io.KnownBytes.{Appends}
use Rattle.hprof_devices.specs.declared.health.Health.{Health}
use Rattle.hprof_devices.specs.declared.health.Health.TheVariants.{Well}
use Rattle.hprof_devices.specs.Device.{health_after}
use Rattle.hprof_runs.specs.declared.scratch_fault.ScratchFault.{ScratchFault}
use Rattle.hprof_runs.specs.declared.scratch_fault.ScratchFault.TheVariants.{OutOfMemory, Full, Write}

-- the health in which a call that writes leaves the scratch
abbrev pub LeavesScratch : {A : Type 0} → Result A ScratchFault → Health → Type 0
LeavesScratch (Ok done) health = health ≡ Well
LeavesScratch (Err OutOfMemory) health = health ≡ Well
LeavesScratch (Err Full) health = health ≡ Well
LeavesScratch (Err (Write fault)) health = health ≡ health_after fault

-- the same of a write, which takes no memory
abbrev pub LeavesWriting : {A : Type 0} → Result A ScratchFault → Health → Type 0
LeavesWriting (Ok done) health = health ≡ Well
LeavesWriting (Err OutOfMemory) health = ⊥
LeavesWriting (Err Full) health = health ≡ Well
LeavesWriting (Err (Write fault)) health = health ≡ health_after fault

-- some bytes were put behind those of the scratch; they are counted, if it is well
pub record Grows {S : Type 0} (written : S → Option (List ℕ)) (health : S → Health) (old new : S) (count now : ℕ) : Type 0 where
  pub sent : List ℕ
  pub appended : Appends (written old) (written new) sent
  pub counted : health new ≡ Well → now ≡ count + length sent
