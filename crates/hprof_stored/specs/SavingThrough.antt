-- What functions that are not public do: they read all parts, whatever their faults, and tell the heap without objects.
use Rattle.std.specs.Prelude.{◌≡◌, ◌⊎◌, ℕ, Bool, true, false, List, length, map, Option, Result, Ok, Err, IsSome, ⊤}
use Rattle.hprof_devices.specs.declared.health.Health.{Health}
use Rattle.hprof_stream.specs.declared.limits.Limits.{Limits}
use Rattle.hprof_stream.specs.declared.part_fault.PartFault.{PartFault}
use Rattle.hprof_stream.specs.declared.part_fault.PartFault.TheVariants as faults
use Rattle.hprof_stream.specs.declared.sink.SinkFault.TheVariants as sinks
use Rattle.hprof_heap.specs.declared.standing.Refusal.TheVariants as refusals
use Rattle.hprof_heap.specs.Gathering.{Tells}
use Rattle.hprof_heap.specs.Heap.{heap_of}
use Rattle.hprof_objects.specs.Log.{HoldsParts}
use Rattle.hprof_engine.specs.declared.loss.Loss.TheVariants as losses
use Rattle.hprof_engine.specs.declared.salvaged.FaultedPart.{FaultedPart}
use Rattle.hprof_engine.specs.declared.tool_fault.ToolFault.{ToolFault}
use Rattle.hprof_engine.specs.declared.tool_fault.ToolFault.TheVariants as tool
use Rattle.hprof_engine.specs.Salvaging.{ReadsThrough, PartRead, WantsToList, is_want_of_memory}
use Rattle.hprof_stored.specs.declared.saving.SavedHeap.{SavedHeap}
use Rattle.hprof_stored.specs.Holding.{HoldsAll, others_before}
use Rattle.hprof_stored.specs.SalvagingStored.{WantsPart}
use Rattle.hprof_stored.specs.SavedParts.{ReadsSaved, read_saved, saved_before}
use Rattle.hprof_stored.specs.Storing.{Storing}

-- the fault of a part that is listed: neither memory nor the scratch was wanting
abbrev pub is_listed : PartFault → Bool
is_listed faults.OutOfMemory = false
is_listed (faults.Sink fault) = false
is_listed other = true

-- why the fault of the part at that place was not listed: it is want of memory, the scratch took no more, or memory was wanted for the list
abbrev pub IsUnlistedStored : ℕ → PartFault → ToolFault → Type 0
IsUnlistedStored index fault (tool.Part place why) = (place ≡ index) × (why ≡ fault) × (is_want_of_memory fault ≡ true)
IsUnlistedStored index fault tool.OutOfMemory = is_listed fault ≡ true
IsUnlistedStored index fault (tool.Lost losses.Scratch) = fault ≡ faults.Sink sinks.Failed
IsUnlistedStored index fault other = ⊥

module _ {R : Type 0} (left : R → Option (List ℕ)) (health : R → Health) (pulls : R → ℕ) (limits : Limits) (old new : List R)
    {S : Type 0} (written : S → Option (List ℕ)) (well : S → Health) (scratch : Option (List ℕ)) where
  -- so many parts, from the first on, were read, and the sink holds what is saved of them
  pub record StoresSaved (count headed : ℕ) (listed : List FaultedPart) (it : Storing S) : Type 0 where
    pub read : ReadsSaved left health pulls limits old new count headed listed
    pub holds : HoldsAll written well limits (saved_before scratch read.parts) it

  -- all parts were read, memory was wanted, or the scratch took no more
  abbrev pub StoresThrough : ℕ → List FaultedPart → Result (Unit {0}) ToolFault → Storing S → Type 0
  StoresThrough headed listed (Ok done) it = StoresSaved (length old) headed listed it
  StoresThrough headed listed (Err (tool.Part index fault)) it = WantsPart left health pulls limits old new index fault
  StoresThrough headed listed (Err tool.OutOfMemory) it = WantsToList left health pulls limits old new
  StoresThrough headed listed (Err (tool.Lost losses.Scratch)) it = ⊤
  StoresThrough headed listed (Err other) it = ⊥

  -- all parts were read: the heap of the facts that are saved but objects, and a log that keeps enough of the objects, if the scratch
  -- tells its bytes
  pub record HoldsSaved (it : SavedHeap S) : Type 0 where
    pub read : ReadsSaved left health pulls limits old new (length old) it.headed it.faults.items
    pub tells : Tells (others_before (saved_before scratch read.parts)) (Ok (heap_of it.stored.heap))
    pub objects : IsSome scratch → HoldsParts written well limits (map read_saved read.parts) it.stored.objects

  -- or there is no such heap, memory was wanted, or the scratch took no more
  abbrev pub SavesHeap : Result (SavedHeap S) ToolFault → Type 0
  SavesHeap (Ok it) = HoldsSaved it
  SavesHeap (Err tool.NoParts) = (reads : List PartRead) × ReadsThrough left health pulls limits old new reads (Err refusals.NoParts)
  SavesHeap (Err tool.IdSizes) = (reads : List PartRead) × ReadsThrough left health pulls limits old new reads (Err refusals.IdSizes)
  SavesHeap (Err (tool.Conflict key)) =
      (reads : List PartRead) × ReadsThrough left health pulls limits old new reads (Err (refusals.Conflict key))
  SavesHeap (Err (tool.Part index fault)) = WantsPart left health pulls limits old new index fault
  SavesHeap (Err tool.OutOfMemory) = (new ≡ old) ⊎ WantsToList left health pulls limits old new
  SavesHeap (Err (tool.Lost losses.Scratch)) = ⊤
  SavesHeap (Err other) = ⊥
