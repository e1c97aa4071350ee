-- What a fault tells.
use Rattle.std.specs.Prelude.{⊤}
use Rattle.hprof_runs.specs.declared.run_fault.RunFault.{RunFault}
use Rattle.hprof_runs.specs.declared.run_fault.RunFault.TheVariants.{OutOfMemory, Read, Damaged}

-- if it is a damage, this holds
abbrev pub IfDamaged : RunFault → Type 0 → Type 0
IfDamaged OutOfMemory P = ⊤
IfDamaged Read P = ⊤
IfDamaged Damaged P = P

-- if a read failed, this holds
abbrev pub IfReadFailed : RunFault → Type 0 → Type 0
IfReadFailed OutOfMemory P = ⊤
IfReadFailed Read P = P
IfReadFailed Damaged P = ⊤
