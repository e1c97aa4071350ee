use Rattle.std.proofs.Common.{◌≡◌, length, take}
use Rattle.hprof_runs.specs.Ahead.{AreLengths}
use Rattle.hprof_runs.proofs.ahead.Ahead.read.Given as goal

abbrev pub invariant-loop-i : goal.invariant-loop-i
invariant-loop-i l = record { read : AreLengths l.bytes (take l.i l.places) l.lengths; size : length l.lengths ≡ 16 }
