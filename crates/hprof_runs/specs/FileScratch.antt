-- Scratch in a file.
use Rattle.hprof_devices.specs.declared.health.Health.{Health}
use Rattle.hprof_runs.specs.declared.file_scratch.FileScratch.{FileScratch}

-- the file
abbrev pub file_of : {F : Type 0} → FileScratch F → F
file_of scratch = scratch.file

-- its health
abbrev pub file_health : {F : Type 0} → FileScratch F → Health
file_health scratch = scratch.health
