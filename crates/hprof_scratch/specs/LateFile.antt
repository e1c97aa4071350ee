-- A file that is created when its first byte is written.
use Rattle.std.specs.Prelude.{◌≡◌, ◌≢◌, ℕ, ◌⊎◌, List, [], ◌∷◌, Result, Ok, Err, ⊤}
use Rattle.hprof_devices.specs.declared.health.Health.{Health}
use Rattle.hprof_devices.specs.declared.health.Health.TheVariants.{Well, Failed}
use Rattle.hprof_devices.specs.declared.health.WriteFault.{WriteFault}
use Rattle.hprof_devices.specs.declared.health.WriteFault.TheVariants as faults
use Rattle.hprof_runs.specs.FileScratch.{file_health}
use Rattle.hprof_scratch.specs.declared.late_file.LateFile.{LateFile}
use Rattle.hprof_scratch.specs.declared.late_file.LateFile.TheVariants.{Later, Created, Refused}

-- The file was created.
abbrev pub IsThere : {F : Type 0} → LateFile F → Type 0
IsThere Later = ⊥
IsThere (Created scratch) = ⊤
IsThere Refused = ⊥

-- Its health: well until a byte is written, and failed if it could not be created.
abbrev pub late_health : {F : Type 0} → LateFile F → Health
late_health Later = Well
late_health (Created scratch) = file_health scratch
late_health Refused = Failed

-- A byte may be pushed: it is well, or it could not be created.
abbrev pub IsWritable : {F : Type 0} → LateFile F → Type 0
IsWritable file = file ≢ Refused → late_health file ≡ Well

-- The file after a call that creates it: it is there and well, or was refused. A call after the first one changes nothing.
abbrev pub Creates : {F : Type 0} → LateFile F → LateFile F → Type 0
Creates Later new = (IsThere new × (late_health new ≡ Well)) ⊎ (new ≡ Refused)
Creates (Created scratch) new = new ≡ Created scratch
Creates Refused new = new ≡ Refused

-- The answer to a push of these bytes, and the file after it. The first byte creates the file. If that fails, this push and each later one
-- answer `Failed`.
abbrev pub Pushes : {F : Type 0} → LateFile F → List ℕ → Result ℕ WriteFault → LateFile F → Type 0
Pushes Later [] answer new = (answer ≡ Ok 0) × (new ≡ Later)
Pushes Later (byte ∷ rest) answer new = IsThere new ⊎ ((answer ≡ Err faults.Failed) × (new ≡ Refused))
Pushes (Created scratch) bytes answer new = IsThere new
Pushes Refused bytes answer new = (answer ≡ Err faults.Failed) × (new ≡ Refused)
