use Rattle.std.proofs.Common.{◌≡◌, take}
use Rattle.std.specs.List.{flat_map}
use Rattle.hprof_text.specs.ModifiedUtf8.{unit_bytes}
use Rattle.hprof_text.proofs.encoding.encode_units.Given as goal

abbrev pub invariant-loop-unit : goal.invariant-loop-unit
invariant-loop-unit l = l.bytes.items ≡ flat_map unit_bytes (take l.unit-index l.units)
