-- What the faults of a stretch tell.
use Rattle.std.specs.Prelude.{⊤}
use Rattle.hprof_stream.specs.declared.part_fault.PartFault.{PartFault}
use Rattle.hprof_stream.specs.declared.part_fault.PartFault.TheVariants as faults
use Rattle.hprof_objects.specs.declared.stretch_fault.StretchFault.{StretchFault}
use Rattle.hprof_objects.specs.declared.stretch_fault.StretchFault.TheVariants.{OutOfMemory, Read, Changed}

-- why the part is refused: where its bytes decide that, it has changed
abbrev pub stretch_fault : PartFault → StretchFault
stretch_fault (faults.Malformed at reason) = Changed
stretch_fault (faults.ItemTooLong at) = Changed
stretch_fault faults.BytesExceeded = Changed
stretch_fault faults.OutOfMemory = OutOfMemory
stretch_fault (faults.Sink fault) = OutOfMemory
stretch_fault faults.Failed = Read
stretch_fault faults.Read = Read
stretch_fault faults.ReadsExceeded = Read

-- if the part could not be read, the first holds; if it has changed, the second
abbrev pub ByFault : StretchFault → Type 0 → Type 0 → Type 0
ByFault OutOfMemory P Q = ⊤
ByFault Read P Q = P
ByFault Changed P Q = Q
