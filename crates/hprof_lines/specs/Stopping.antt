-- What writing a text comes to that may want memory.
use Rattle.std.specs.Prelude.{◌≡◌, ℕ, ◌≤◌, List, length, take, Option, Result, Ok, Err}
use Rattle.std.specs.Io.KnownBytes.{Appends}
use Rattle.hprof_devices.specs.declared.health.Health.{Health}
use Rattle.hprof_devices.specs.declared.health.Health.TheVariants.{Well}
use Rattle.hprof_devices.specs.Device.{health_after}
use Rattle.hprof_engine.specs.declared.product.ProductFault.{ProductFault}
use Rattle.hprof_engine.specs.declared.product.ProductFault.TheVariants as stops

-- all of the text was written, or where it stopped some of it, from the front
abbrev pub WritesText : {A : Type 0} → Option (List ℕ) → Option (List ℕ) → Result A ProductFault → List ℕ → Type 0
WritesText old new (Ok done) text = Appends old new text
WritesText old new (Err stop) text = (n : ℕ) × (n ≤ length text) × Appends old new (take n text)

-- the health in which the writer is left: want of memory leaves it well, and no heap is refused
abbrev pub LeavesTarget : {A : Type 0} → Result A ProductFault → Health → Type 0
LeavesTarget (Ok done) health = health ≡ Well
LeavesTarget (Err (stops.Write fault)) health = health ≡ health_after fault
LeavesTarget (Err stops.OutOfMemory) health = health ≡ Well
LeavesTarget (Err (stops.Refused refusal)) health = ⊥
