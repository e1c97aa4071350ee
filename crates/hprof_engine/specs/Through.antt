-- What functions that are not public do: they read all parts, and tell the heap of what was gathered.
use Rattle.std.specs.Prelude.{◌≡◌, ℕ, true, false, List, length, Result, Ok, Err}
use Rattle.hprof_devices.specs.declared.health.Health.{Health}
use Rattle.hprof_stream.specs.declared.limits.Limits.{Limits}
use Rattle.hprof_stream.specs.declared.part_fault.PartFault.{PartFault}
use Rattle.std.specs.Prelude.{Option}
use Rattle.hprof_heap.specs.declared.standing.Refusal.TheVariants as refusals
use Rattle.hprof_rows.specs.HeapValue.{HeapValue}
use Rattle.hprof_heap.specs.Gathering.{Gathered, Given, nothing_gathered, Gathers, Tells}
use Rattle.hprof_engine.specs.declared.tool_fault.ToolFault.{ToolFault}
use Rattle.hprof_engine.specs.declared.tool_fault.ToolFault.TheVariants as tool
use Rattle.hprof_engine.specs.declared.salvaged.FaultedPart.{FaultedPart}
use Rattle.hprof_engine.specs.declared.salvaged.Salvaged.{Salvaged}
use Rattle.hprof_engine.specs.declared.salvaged.SalvagedHeap.{SalvagedHeap}
use Rattle.hprof_engine.specs.Saved.{AreSaved}
use Rattle.hprof_engine.specs.Salvaging.{PartRead, all_handled, is_want_of_memory, faults_of, AreReadSo, WantsAt, WantsToList}

-- why the fault of the part at that place was not listed: it is want of memory, or there was none for the list
abbrev pub IsUnlisted : ℕ → PartFault → ToolFault → Type 0
IsUnlisted index fault (tool.Part place why) = (place ≡ index) × (why ≡ fault) × (is_want_of_memory fault ≡ true)
IsUnlisted index fault tool.OutOfMemory = is_want_of_memory fault ≡ false
IsUnlisted index fault other = ⊥

module _ {R : Type 0} (left : R → Option (List ℕ)) (health : R → Health) (pulls : R → ℕ) (limits : Limits) (old new : List R) where
  -- so many parts, from the first on, were read; a gatherer that was given nothing before was given what is saved of them, and has
  -- not failed; the faults are listed, the parts with a whole header counted
  pub record GathersSaved (count : ℕ) (gathered : Gathered) (parts : ℕ) (listed : List FaultedPart) : Type 0 where
    pub reads : List PartRead
    pub each : AreReadSo left health pulls limits old new reads
    pub all : length reads ≡ count
    pub given : List Given
    pub saved : AreSaved limits.max_item (all_handled limits reads) given
    pub gathers : Gathers nothing_gathered given gathered
    pub sound : gathered.failed ≡ false
    pub counted : parts ≡ length given
    pub has_listed : listed ≡ faults_of reads

  -- all parts were read, or memory was wanted
  abbrev pub ReadsParts : Gathered → ℕ → List FaultedPart → Result (Unit {0}) ToolFault → Type 0
  ReadsParts gathered parts listed (Ok done) = GathersSaved (length old) gathered parts listed
  ReadsParts gathered parts listed (Err (tool.Part index fault)) = WantsAt left health pulls limits old new index fault
  ReadsParts gathered parts listed (Err tool.OutOfMemory) = WantsToList left health pulls limits old new
  ReadsParts gathered parts listed (Err other) = ⊥

-- what was found with the heap of the parts that a gatherer was given, or why there is none
abbrev pub TellsHeap : {F : Type 0} → (F → HeapValue) → List Given → Result F ToolFault → Type 0
TellsHeap heap_in given (Ok found) = Tells given (Ok (heap_in found))
TellsHeap heap_in given (Err tool.NoParts) = Tells given (Err refusals.NoParts)
TellsHeap heap_in given (Err tool.IdSizes) = Tells given (Err refusals.IdSizes)
TellsHeap heap_in given (Err (tool.Conflict key)) = Tells given (Err (refusals.Conflict key))
TellsHeap heap_in given (Err other) = ⊥

-- what was saved, without the heap
abbrev pub salvaged_in : Result SalvagedHeap ToolFault → Result Salvaged ToolFault
salvaged_in (Ok kept) = Ok kept.salvaged
salvaged_in (Err fault) = Err fault
