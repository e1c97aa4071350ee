-- What a call answers that saves what it can of parts whose objects are read again.
use Rattle.std.specs.Prelude.{◌≡◌, ◌⊎◌, ℕ, true, List, length, take, Option, Result, Ok, Err}
use Rattle.std.specs.Io.KnownBytes.{Appends}
use Rattle.hprof_devices.specs.declared.health.Health.{Health}
use Rattle.hprof_devices.specs.declared.health.Health.TheVariants.{Well}
use Rattle.hprof_devices.specs.Device.{health_after}
use Rattle.hprof_stream.specs.declared.limits.Limits.{Limits}
use Rattle.hprof_stream.specs.declared.part_fault.PartFault.{PartFault}
use Rattle.hprof_rows.specs.HeapValue.{HeapValue}
use Rattle.hprof_heap.specs.declared.standing.Refusal.TheVariants as refusals
use Rattle.hprof_heap.specs.Gathering.{Given}
use Rattle.hprof_dump.specs.Dump.{canonical_dump}
use Rattle.hprof_engine.specs.declared.salvaged.Salvaged.{Salvaged}
use Rattle.hprof_engine.specs.declared.tool_fault.ToolFault.{ToolFault}
use Rattle.hprof_engine.specs.declared.tool_fault.ToolFault.TheVariants as tool
use Rattle.hprof_engine.specs.Joining.{RefusesAt, Tell}
use Rattle.hprof_engine.specs.Makes.{IsChange}
use Rattle.hprof_engine.specs.Salvaging.{AreReadSo, PartRead, ReadsThrough, RefusesAll, SavesAll, StopsWriting, WantsToList, all_handled}
use Rattle.hprof_engine.specs.Salvaging.{faults_of, is_want_of_memory}
use Rattle.hprof_engine.specs.Saved.{AreSaved}
use Rattle.hprof_stored.specs.Storing.{HaveObject}

module _ {R : Type 0} (left : R → Option (List ℕ)) (health : R → Health) (pulls : R → ℕ) (limits : Limits) (old new : List R) where
  -- memory was wanted for reading the part at that place, which takes memory for each object: those before it were read so, those behind
  -- it were not touched
  pub record WantsPart (index : ℕ) (fault : PartFault) : Type 0 where
    pub reads : List PartRead
    pub each : AreReadSo left health pulls limits old new reads
    pub place : length reads ≡ index
    pub given : List Given
    pub saved : AreSaved limits.max_item (all_handled limits reads) given
    pub at : RefusesAt left health pulls HaveObject limits given old new index fault
    pub memory : is_want_of_memory fault ≡ true

  -- all parts were read so
  pub record AreAllRead : Type 0 where
    pub reads : List PartRead
    pub each : AreReadSo left health pulls limits old new reads
    pub all : length reads ≡ length old

  -- that holds if the readers tell parts
  abbrev pub IfTold : Type 0 → Type 0
  IfTold Holds = (parts : List (List ℕ)) → Tell left old parts → Holds

  module _ {W : Type 0} (written : W → Option (List ℕ)) (well : W → Health) (before after : W) where
    -- a front of the canonical dump of what is saved was written
    pub record WritesSavedFront : Type 0 where
      pub reads : List PartRead
      pub heap : HeapValue
      pub through : ReadsThrough left health pulls limits old new reads (Ok heap)
      pub count : ℕ
      pub wrote : Appends (written before) (written after) (take count (canonical_dump heap.ids heap.millis heap.facts))

    -- nothing was written, or a front, if the readers tell parts
    abbrev pub WritesFrontOrNothing : Type 0
    WritesFrontOrNothing = (after ≡ before) ⊎ IfTold WritesSavedFront

    -- all parts were read, their faults are listed, and the writer is well; if the readers tell parts, what is saved of them was written
    pub record SavesStored (salvaged : Salvaged) : Type 0 where
      pub read : AreAllRead
      pub listed : salvaged.faults.items ≡ faults_of read.reads
      pub is_well : well after ≡ Well
      pub saves : IfTold (SavesAll left health pulls limits old new written well before after salvaged)

    -- what such a call answers: as `Salvages` says it, where the readers tell parts; and objects are lost, or memory is wanted for them
    --   left, health, pulls: what a reader has left to tell, how it is doing, how often it was pulled
    --   written, well: what a writer holds, where it tells, and how it is doing
    --   old, new: the readers, before and afterwards;  before, after: the writer
    abbrev pub SalvagesStored : Result Salvaged ToolFault → Type 0
    SalvagesStored (Ok salvaged) = SavesStored salvaged
    SalvagesStored (Err tool.NoParts) = RefusesAll left health pulls limits old new written well before after refusals.NoParts
    SalvagesStored (Err tool.IdSizes) = RefusesAll left health pulls limits old new written well before after refusals.IdSizes
    SalvagesStored (Err (tool.Conflict key)) = (after ≡ before)
        × IfTold (RefusesAll left health pulls limits old new written well before after (refusals.Conflict key))
    SalvagesStored (Err (tool.Write fault)) = (well after ≡ health_after fault)
        × IfTold (StopsWriting left health pulls limits old new written well before after fault)
    SalvagesStored (Err (tool.Part index fault)) = WantsPart index fault × (after ≡ before)
    SalvagesStored (Err tool.OutOfMemory) =
        (((new ≡ old) ⊎ WantsToList left health pulls limits old new) × (after ≡ before))
        ⊎ (AreAllRead × (well after ≡ Well) × WritesFrontOrNothing)
    SalvagesStored (Err (tool.Lost loss)) = WritesFrontOrNothing × IfTold (IsChange loss → ⊥)
    SalvagesStored (Err (tool.Refused refusal)) = ⊥
