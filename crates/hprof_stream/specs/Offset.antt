-- Where a part is at fault.
use Rattle.std.specs.Prelude.{ℕ}
use Rattle.hprof_stream.specs.declared.part_fault.PartFault.{PartFault}
use Rattle.hprof_stream.specs.declared.part_fault.PartFault.TheVariants.{Malformed, ItemTooLong}

-- the offset that a fault of an item names
abbrev pub offset_of : PartFault → ℕ
offset_of (Malformed at reason) = at
offset_of (ItemTooLong at) = at
offset_of other = 0
