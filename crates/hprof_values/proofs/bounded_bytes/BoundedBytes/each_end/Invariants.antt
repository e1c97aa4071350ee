use Rattle.std.proofs.Common.{◌≡◌, ◌+◌, ◌<◌, ◌^◌, sum, length}
use Rattle.hprof_values.specs.FieldGroups.{reached}
use Rattle.hprof_values.specs.BoundedBytes.{bounds_of}
use Rattle.hprof_values.proofs.bounded_bytes.BoundedBytes.each_end.Given as goal

abbrev pub invariant-loop-rest : goal.invariant-loop-rest
invariant-loop-rest l = record {
  same : reached (bounds_of l.self) l.end l.rest ≡ reached (bounds_of l.self) l.at l.widths;
  fits : l.end + sum l.rest < 2 ^ 64;
}

abbrev pub decreases-loop-rest : goal.decreases-loop-rest
decreases-loop-rest l = length l.rest
