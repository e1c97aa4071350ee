-- What is read from and written to.
use Rattle.std.specs.Prelude.{◌≡◌, ℕ, zero, suc, ◌≤◌, List, length, take, Option, Result, Ok, Err}
use Rattle.std.specs.Io.KnownBytes.{Appends}
use Rattle.hprof_devices.specs.declared.health.Health.{Health}
use Rattle.hprof_devices.specs.declared.health.Health.TheVariants as healths
use Rattle.hprof_devices.specs.declared.health.ReadFault.{ReadFault}
use Rattle.hprof_devices.specs.declared.health.ReadFault.TheVariants as reads
use Rattle.hprof_devices.specs.declared.health.WriteFault.{WriteFault}
use Rattle.hprof_devices.specs.declared.health.WriteFault.TheVariants as faults
use Rattle.hprof_devices.specs.declared.device.Device.{Device}

-- the health in which a writer is left by a fault
abbrev pub health_after : WriteFault → Health
health_after faults.Failed = healths.Failed
health_after faults.Stuck = healths.Stuck

-- the health in which a call that writes leaves the writer
abbrev pub LeavesHealth : {A : Type 0} → Result A WriteFault → Health → Type 0
LeavesHealth (Ok _) health = health ≡ healths.Well
LeavesHealth (Err fault) health = health ≡ health_after fault

-- all the bytes went out, or at a fault some of them, from the front
abbrev pub Writes : {A : Type 0} → Option (List ℕ) → Option (List ℕ) → Result A WriteFault → List ℕ → Type 0
Writes old new (Ok _) bytes = Appends old new bytes
Writes old new (Err _) bytes = (n : ℕ) × (n ≤ length bytes) × Appends old new (take n bytes)

-- what a device answers, and its health afterwards, where std answered this to a read: the count as it is, and a failure
-- exactly at an error
abbrev pub EndsRead : {E : Type 0} → Result ℕ E → Result ℕ ReadFault → Health → Type 0
EndsRead (Ok count) answer health = (answer ≡ Ok count) × (health ≡ healths.Well)
EndsRead (Err error) answer health = (answer ≡ Err reads.Failed) × (health ≡ healths.Failed)

-- the same of a write of a piece of that length: it sticks exactly where no byte was taken of a piece that has some
abbrev pub EndsWrite : {E : Type 0} → Result ℕ E → ℕ → Result ℕ WriteFault → Health → Type 0
EndsWrite (Ok zero) (suc length) answer health = (answer ≡ Err faults.Stuck) × (health ≡ healths.Stuck)
EndsWrite (Ok count) length answer health = (answer ≡ Ok count) × (health ≡ healths.Well)
EndsWrite (Err error) length answer health = (answer ≡ Err faults.Failed) × (health ≡ healths.Failed)

-- what a device shows: the reader or writer, its health, how many pulls were made
abbrev pub inner_of : {T : Type 0} → Device T → T
inner_of device = device.inner

abbrev pub health_of : {T : Type 0} → Device T → Health
health_of device = device.health

abbrev pub pulls_of : {T : Type 0} → Device T → ℕ
pulls_of device = device.pulls
