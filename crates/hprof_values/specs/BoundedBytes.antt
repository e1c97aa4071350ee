-- The bounds of an item that is read.
use Rattle.std.specs.Prelude.{length}
use Rattle.hprof_values.specs.declared.bounded_bytes.BoundedBytes.{BoundedBytes}
use Rattle.hprof_values.specs.FieldGroups.{Bounds}

abbrev pub bounds_of : BoundedBytes → Bounds
bounds_of item = record { room = item.room; longest = item.longest; there = length item.bytes.now }
