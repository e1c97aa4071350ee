use Rattle.hprof_tool.specs.Door.{CanAdvance}
use Rattle.example_names.proofs.main.Given as goal

-- the reader can be asked for the next fact
abbrev pub invariant-loop : goal.invariant-loop
invariant-loop l = CanAdvance (λ device. device.health) l.reader
