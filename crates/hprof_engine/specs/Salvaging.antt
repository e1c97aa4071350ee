-- What a call answers that saves what it can of parts.
use Rattle.std.specs.Prelude.{◌≡◌, ℕ, suc, ◌+◌, ◌≤◌, ◌<◌, Bool, true, false, List, [], ◌∷◌, ◌++◌, length, take, map, Option, Some, None}
use Rattle.std.specs.Prelude.{Result, Ok, Err, slice_get, IsSome}
use Rattle.std.specs.Io.KnownBytes.{Consumes, IsAtEnd, Appends}
use Rattle.hprof_devices.specs.declared.health.Health.{Health}
use Rattle.hprof_devices.specs.declared.health.Health.TheVariants as healths
use Rattle.hprof_devices.specs.declared.health.WriteFault.{WriteFault}
use Rattle.hprof_devices.specs.Device.{health_after}
use Rattle.hprof_stream.specs.declared.limits.Limits.{Limits}
use Rattle.hprof_stream.specs.declared.part_fault.PartFault.{PartFault}
use Rattle.hprof_stream.specs.declared.part_fault.PartFault.TheVariants as faults
use Rattle.hprof_stream.specs.declared.sink.SinkFault.TheVariants as sinks
use Rattle.hprof_stream.specs.Reader.{IsReadingFault, PulledOut}
use Rattle.hprof_rows.specs.HeapValue.{HeapValue}
use Rattle.hprof_dump.specs.Dump.{canonical_dump}
use Rattle.hprof_heap.specs.declared.standing.Refusal.{Refusal}
use Rattle.hprof_heap.specs.declared.standing.Refusal.TheVariants as refusals
use Rattle.hprof_heap.specs.Gathering.{Given}
use Rattle.hprof_engine.specs.declared.tool_fault.ToolFault.{ToolFault}
use Rattle.hprof_engine.specs.declared.tool_fault.ToolFault.TheVariants as tool
use Rattle.hprof_engine.specs.Joining.{IsAccepted, IsOfPart, RefusesAt, none_known}
use Rattle.hprof_engine.specs.declared.salvaged.FaultedPart.{FaultedPart}
use Rattle.hprof_engine.specs.declared.salvaged.Salvaged.{Salvaged}
use Rattle.hprof_engine.specs.Saved.{AreSaved, SavesTo}

-- ---- how reading a part ends

-- of a part these bytes came, and it has that fault, or none
pub record PartRead : Type 0 where
  pub came : List ℕ
  pub fault : Option PartFault

-- its bytes that were handled: all that came, but no more than may come
abbrev pub handled : Limits → PartRead → List ℕ
handled limits read = take limits.max_bytes read.came

abbrev pub all_handled : Limits → List PartRead → List (List ℕ)
all_handled limits reads = map (handled limits) reads

-- memory was wanted
abbrev pub is_want_of_memory : PartFault → Bool
is_want_of_memory faults.OutOfMemory = true
is_want_of_memory (faults.Sink sinks.OutOfMemory) = true
is_want_of_memory (faults.Sink sinks.Failed) = false
is_want_of_memory (faults.Malformed at reason) = false
is_want_of_memory (faults.ItemTooLong at) = false
is_want_of_memory faults.Failed = false
is_want_of_memory faults.Read = false
is_want_of_memory faults.ReadsExceeded = false
is_want_of_memory faults.BytesExceeded = false

-- what that says of the whole part: all of it came; or the fault of an item is its first, or it goes beyond a limit
abbrev pub IsOfWhole : Limits → List ℕ → List ℕ → Option PartFault → Type 0
IsOfWhole limits bytes came None = bytes ≡ came
IsOfWhole limits bytes came (Some fault) = IsOfPart limits bytes fault

-- the faults, each with the place of its part, which counts from the number on
abbrev pub fault_with : ℕ → Option PartFault → List FaultedPart → List FaultedPart
fault_with index None others = others
fault_with index (Some fault) others = record { index = index; fault = fault } ∷ others

abbrev pub faults_from : ℕ → List PartRead → List FaultedPart
faults_from index [] = []
faults_from index (read ∷ others) = fault_with index read.fault (faults_from (suc index) others)

-- of each part that has a fault, in order, its place and the fault, and of no other
abbrev pub faults_of : List PartRead → List FaultedPart
faults_of reads = faults_from 0 reads

module _ {R : Type 0} (left : R → Option (List ℕ)) (health : R → Health) (pulls : R → ℕ) (limits : Limits) where
  -- reading a part ended with no fault, at its end, or with one that is no want of memory and not the gatherer's
  --   was, is: the reader, before and afterwards
  abbrev pub EndsPart : (was : R) → List ℕ → (is : R) → Option PartFault → Type 0
  EndsPart was came is None = PulledOut left pulls limits was came is × IsAtEnd (left is) × (health is ≡ healths.Well)
      × IsAccepted limits came
  EndsPart was came is (Some (faults.Sink fault)) = ⊥
  EndsPart was came is (Some fault) = IsReadingFault left health pulls limits was came is fault × (is_want_of_memory fault ≡ false)

  -- a reader was read so
  pub record IsReadSo (was is : R) (read : PartRead) : Type 0 where
    pub consumed : Consumes (left was) (left is) read.came
    pub spared : pulls is ≤ pulls was + limits.max_reads
    pub ends : EndsPart was read.came is read.fault
    pub whole : (bytes : List ℕ) → left was ≡ Some bytes → IsOfWhole limits bytes read.came read.fault

  -- so many readers, from the first on, were read so
  --   old, new: the readers, before and afterwards
  abbrev pub AreReadSo : (old new : List R) → List PartRead → Type 0
  AreReadSo old new reads = (k : ℕ) → k < length reads → (was : R) × (is : R) × (read : PartRead) × (slice_get old k ≡ Some was)
      × (slice_get new k ≡ Some is) × (slice_get reads k ≡ Some read) × IsReadSo was is read

-- ---- what is answered

module _ {R : Type 0} (left : R → Option (List ℕ)) (health : R → Health) (pulls : R → ℕ) (limits : Limits) (old new : List R) where
  -- all parts were read so, and what is saved of them comes to that
  pub record ReadsThrough (reads : List PartRead) (answer : Result HeapValue Refusal) : Type 0 where
    pub each : AreReadSo left health pulls limits old new reads
    pub all : length reads ≡ length old
    pub saves : SavesTo limits.max_item (all_handled limits reads) answer

  -- memory was wanted for reading the part at that place: those before it were read so, those behind it were not touched
  pub record WantsAt (index : ℕ) (fault : PartFault) : Type 0 where
    pub reads : List PartRead
    pub each : AreReadSo left health pulls limits old new reads
    pub place : length reads ≡ index
    pub given : List Given
    pub saved : AreSaved limits.max_item (all_handled limits reads) given
    pub at : RefusesAt left health pulls none_known limits given old new index fault
    pub memory : is_want_of_memory fault ≡ true

  -- memory was wanted for listing the fault of the last of the parts that were read so; those behind it were not touched
  pub record WantsToList : Type 0 where
    pub before : List PartRead
    pub last : PartRead
    pub each : AreReadSo left health pulls limits old new (before ++ last ∷ [])
    pub faulty : IsSome last.fault
    pub unread : (k : ℕ) → length before < k → slice_get new k ≡ slice_get old k

  module _ {W : Type 0} (written : W → Option (List ℕ)) (well : W → Health) (before after : W) where
    -- the canonical dump of what is saved was written, and the writer is well; the faults are listed, the parts with a whole header
    -- and the facts counted
    pub record SavesAll (salvaged : Salvaged) : Type 0 where
      pub reads : List PartRead
      pub heap : HeapValue
      pub through : ReadsThrough reads (Ok heap)
      pub listed : salvaged.faults.items ≡ faults_of reads
      pub parts_count : salvaged.joined.parts ≡ length through.saves.given
      pub facts_count : salvaged.joined.facts ≡ length heap.facts
      pub wrote : Appends (written before) (written after) (canonical_dump heap.ids heap.millis heap.facts)
      pub is_well : well after ≡ healths.Well

    -- what is saved comes to that refusal, and nothing was written
    pub record RefusesAll (refusal : Refusal) : Type 0 where
      pub reads : List PartRead
      pub through : ReadsThrough reads (Err refusal)
      pub unwritten : after ≡ before

    -- the writer failed or stuck, and a front of the canonical dump of what is saved was written
    pub record StopsWriting (fault : WriteFault) : Type 0 where
      pub reads : List PartRead
      pub heap : HeapValue
      pub through : ReadsThrough reads (Ok heap)
      pub count : ℕ
      pub wrote : Appends (written before) (written after) (take count (canonical_dump heap.ids heap.millis heap.facts))
      pub ill : well after ≡ health_after fault

    -- what a call answers that saves what it can of all parts, and writes it
    --   left, health, pulls: what a reader has left to tell, how it is doing, how often it was pulled
    --   written, well: what a writer holds, where it tells, and how it is doing
    --   old, new: the readers, before and afterwards;  before, after: the writer
    abbrev pub Salvages : Result Salvaged ToolFault → Type 0
    Salvages (Ok salvaged) = SavesAll salvaged
    Salvages (Err tool.NoParts) = RefusesAll refusals.NoParts
    Salvages (Err tool.IdSizes) = RefusesAll refusals.IdSizes
    Salvages (Err (tool.Conflict key)) = RefusesAll (refusals.Conflict key)
    Salvages (Err (tool.Write fault)) = StopsWriting fault
    Salvages (Err (tool.Part index fault)) = WantsAt index fault × (after ≡ before)
    Salvages (Err tool.OutOfMemory) = WantsToList × (after ≡ before)
    Salvages (Err (tool.Refused refusal)) = ⊥
    Salvages (Err (tool.Lost loss)) = ⊥
