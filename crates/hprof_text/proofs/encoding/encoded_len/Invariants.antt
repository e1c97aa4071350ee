use Rattle.std.proofs.Common.{◌≡◌, ◌≤◌, ◌*◌, length, take}
use Rattle.std.specs.List.{flat_map}
use Rattle.hprof_text.specs.ModifiedUtf8.{unit_bytes}
use Rattle.hprof_text.proofs.encoding.encoded_len.Given as goal

abbrev pub invariant-loop-unit : goal.invariant-loop-unit
invariant-loop-unit l = record {
  so_far : l.len ≡ length (flat_map unit_bytes (take l.unit-index l.units));
  small : l.len ≤ 3 * l.unit-index;
}
