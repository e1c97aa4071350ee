-- Sub-records that are written together.
use Rattle.std.specs.Prelude.{◌≡◌, ℕ, List, ◌++◌, take, Option, Result, Ok, Err}
use Rattle.std.specs.Io.KnownBytes.{Appends}
use Rattle.hprof_devices.specs.declared.health.WriteFault.{WriteFault}
use Rattle.hprof_devices.specs.Device.{Writes}
use Rattle.hprof_dump.specs.declared.batch.Batch.{Batch}

-- the bytes that wait
abbrev pub batch_bytes : Batch → List ℕ
batch_bytes batch = take batch.end batch.room

-- a front of the bytes went out, and the others wait; at a fault some of them went out, from the front
abbrev pub WritesSome : {A : Type 0} → Option (List ℕ) → Option (List ℕ) → Result A WriteFault → List ℕ → List ℕ → Type 0
WritesSome old new (Ok _) bytes waiting = (front : List ℕ) × Appends old new front × (bytes ≡ front ++ waiting)
WritesSome {A} old new (Err fault) bytes waiting = Writes {A = A} old new (Err fault) bytes
