use Rattle.std.proofs.Common.{◌≡◌, ◌≤◌, length}
use denote.Text.{Utf8}
use denote.Shadow.{shadow}
use Rattle.hprof_text.specs.JavaFloats.{without_last_zeros}
use Rattle.hprof_text.proofs.java_floats.without_last_zeros.Given as goal

abbrev pub invariant-loop-front : goal.invariant-loop-front
invariant-loop-front l = record {
  utf8 : shadow (Utf8 l.kept);
  same : without_last_zeros l.kept ≡ without_last_zeros l.digits;
  shorter : length l.kept ≤ length l.digits;
}

abbrev pub decreases-loop-front : goal.decreases-loop-front
decreases-loop-front l = length l.kept
