use Rattle.std.proofs.Common.{◌≡◌, All}
use Rattle.hprof_devices.specs.declared.health.Health.TheVariants.{Well}
use Rattle.hprof_devices.specs.Device.{health_of}
use Rattle.hprof_heap_cases.proofs.storing.readers_of.Given as goal

-- the readers so far are well
abbrev pub invariant-loop-part : goal.invariant-loop-part
invariant-loop-part l = All (λ reader. health_of reader ≡ Well) l.readers.items
