-- What scratch in memory holds.
use Rattle.std.specs.Prelude.{ℕ, List}
use Rattle.hprof_devices.specs.declared.health.Health.{Health}
use Rattle.hprof_runs.specs.declared.memory_scratch.MemoryScratch.{MemoryScratch}

-- its bytes
abbrev pub bytes_in : MemoryScratch → List ℕ
bytes_in scratch = scratch.bytes.items

-- its health
abbrev pub health_in : MemoryScratch → Health
health_in scratch = scratch.health
