-- Results that the bytes of a part decide, whichever reader reads them.
use Rattle.std.specs.Prelude.{◌≡◌, ℕ, ◌≤◌, ◌<◌, Bool, true, false, List, length, take, Option, Some, Result, Ok, Err, ⊤}
use Rattle.hprof_items.specs.declared.header.Header.{Header}
use Rattle.hprof_items.specs.FactValue.{FactValue}
use Rattle.hprof_stream.specs.declared.limits.Limits.{Limits}
use Rattle.hprof_stream.specs.declared.part_fault.PartFault.{PartFault}
use Rattle.hprof_stream.specs.declared.part_fault.PartFault.TheVariants as faults
use Rattle.hprof_stream.specs.declared.summary.PartSummary.{PartSummary}
use Rattle.hprof_stream.specs.Part.{IsPart, IsSummary}
use Rattle.hprof_stream.specs.Fault.{HasNoFault, HasNoSettledFault, IsFirstFault, StatesSoFar, is_settled}
use Rattle.hprof_stream.specs.Run.{Run}

-- a fault of the bytes, and not of memory, the reads, the source or the sink
abbrev pub is_of_bytes : PartFault → Bool
is_of_bytes (faults.Malformed at reason) = true
is_of_bytes (faults.ItemTooLong at) = true
is_of_bytes faults.OutOfMemory = false
is_of_bytes (faults.Sink fault) = false
is_of_bytes faults.Failed = false
is_of_bytes faults.Read = false
is_of_bytes faults.ReadsExceeded = false
is_of_bytes faults.BytesExceeded = true

-- the part is whole, or has a fault of the bytes
abbrev pub IsOfBytes : Result PartSummary PartFault → Type 0
IsOfBytes (Ok summary) = ⊤
IsOfBytes (Err fault) = is_of_bytes fault ≡ true

-- what the bytes of a part come to: they are a part, or more than may come, or have that first fault
abbrev pub IsResultOf : Limits → List ℕ → Result PartSummary PartFault → Type 0
IsResultOf limits bytes (Ok summary) =
    (length bytes ≤ limits.max_bytes) × HasNoFault limits.max_item bytes × IsSummary bytes summary
IsResultOf limits bytes (Err faults.BytesExceeded) =
    (limits.max_bytes < length bytes) × HasNoSettledFault limits.max_item (take limits.max_bytes bytes)
IsResultOf limits bytes (Err fault) = IsFirstFault limits.max_item (take limits.max_bytes bytes) fault
    × (is_settled fault ≡ false → length bytes ≤ limits.max_bytes)

-- these facts the bytes state: all of a part, or those before its fault
abbrev pub StatesBefore : Limits → List ℕ → Result PartSummary PartFault → List FactValue → Type 0
StatesBefore limits bytes (Ok summary) facts = IsPart bytes summary.header.ids summary.header.millis facts
StatesBefore limits bytes (Err fault) facts =
    (header : Option Header) × StatesSoFar limits.max_item (take limits.max_bytes bytes) header facts

-- a sink ran over these facts: behind the header of a part, or before its fault
abbrev pub RunBefore : {S : Type 0} → (S → Header → S → Type 0) → (S → FactValue → S → Type 0) → Result PartSummary PartFault → S
    → List FactValue → S → Type 0
RunBefore begins steps (Ok summary) old facts new = Run begins steps old (Some summary.header) facts new
RunBefore begins steps (Err fault) old facts new = (header : Option Header) × Run begins steps old header facts new
