-- What reading parts answers, whose objects are kept apart.
use Rattle.std.specs.Prelude.{◌≡◌, ◌≢◌, ◌⊎◌, ℕ, ◌≤◌, true, List, [], length, take, map, Option, Some, None, Result, Ok}
use Rattle.std.specs.Prelude.{Err, ⊤, IsSome}
use Rattle.std.specs.List.{AllByRecursion}
use Rattle.hprof_devices.specs.declared.health.Health.{Health}
use Rattle.hprof_devices.specs.declared.health.Health.TheVariants as healths
use Rattle.hprof_devices.specs.declared.target.Target.{Ghosts}
use Rattle.hprof_stream.specs.declared.limits.Limits.{Limits}
use Rattle.hprof_stream.specs.declared.part_fault.PartFault.{PartFault}
use Rattle.hprof_stream.specs.declared.part_fault.PartFault.TheVariants as faults
use Rattle.hprof_stream.specs.declared.sink.SinkFault.TheVariants as sinks
use Rattle.hprof_stream.specs.declared.summary.PartSummary.{PartSummary}
use Rattle.hprof_values.specs.declared.ids.IdSize.{IdSize}
use Rattle.hprof_items.specs.FactValue.{FactValue}
use Rattle.hprof_rows.specs.declared.key.Key.{Key}
use Rattle.hprof_heap.specs.declared.heap.Heap.{Heap}
use Rattle.hprof_heap.specs.declared.standing.Refusal.TheVariants as refusals
use Rattle.hprof_heap.specs.Gathering.{Given, Tells}
use Rattle.hprof_heap.specs.Heap.{heap_of}
use Rattle.hprof_heap.specs.State.{HaveTwoSizes}
use Rattle.hprof_runs.specs.declared.scratch_fault.ScratchFault.{ScratchFault}
use Rattle.hprof_runs.specs.declared.scratch_fault.ScratchFault.TheVariants as scratches
use Rattle.hprof_objects.specs.Log.{HoldsParts, scratch_of_log}
use Rattle.hprof_engine.specs.Joining.{AreGiven, AreReadOut, Disagree, IsAccepted, RefusesAt, RefusesPart, Tell, is_resource_fault}
use Rattle.hprof_engine.specs.Summaries.{HoldsFirst}
use Rattle.hprof_stored.specs.declared.stored_fault.StoredFault.{StoredFault}
use Rattle.hprof_stored.specs.declared.stored_fault.StoredFault.TheVariants as stops
use Rattle.hprof_stored.specs.declared.stored_heap.StoredHeap.{StoredHeap}
use Rattle.hprof_stored.specs.declared.watched_sink.WatchedSink.{WatchedSink}
use Rattle.hprof_stored.specs.Holding.{HoldsAll, parts_before}
use Rattle.hprof_stored.specs.Parts.{AreStored, PartStored, all_read, given_of, others_of}
use Rattle.hprof_stored.specs.Storing.{HaveObject, storing}
use Rattle.hprof_stored.specs.Watching.{Dropped, Watched}

-- the heap of all facts of the parts but objects, and a log that keeps enough of the objects, if the scratch tells its bytes
--   lefts: what the readers had to tell;  scratch: the bytes of the scratch at first
pub record HoldsHeap {S : Type 0} (written : S → Option (List ℕ)) (health : S → Health) (limits : Limits) (lefts : List (Option (List ℕ)))
    (scratch : Option (List ℕ)) (it : StoredHeap S) : Type 0 where
  pub parts : List PartStored
  pub stored : AreStored limits lefts parts
  pub given : AreGiven limits lefts (given_of parts)
  pub tells : Tells (others_of parts) (Ok (heap_of it.heap))
  pub objects : IsSome scratch → HoldsParts written health limits (all_read parts) it.objects
  pub well : health (scratch_of_log it.objects) ≡ healths.Well

-- the same, and what a sink took of the parts that watched, if one did
--   start, now: that sink, before and afterwards
pub record HoldsWatched {S T : Type 0} (written : S → Option (List ℕ)) (health : S → Health) (takes : T → IdSize → FactValue → T → Type 0)
    (limits : Limits) (lefts : List (Option (List ℕ))) (scratch : Option (List ℕ)) (start : Option T) (it : StoredHeap S) (now : Option T)
    : Type 0 where
  pub holds : HoldsHeap written health limits lefts scratch it
  pub watched : Watched takes start holds.parts now

-- if a sink watched at first and is not there any more, one of the parts ended it
--   lefts: what the readers had to tell
pub record DropsWatch {T E : Type 0} (takes : T → IdSize → FactValue → T → Type 0) (refuses : T → IdSize → FactValue → E → T → Type 0)
    (limits : Limits) (lefts : List (Option (List ℕ))) (start now : Option T) : Type 0 where
  pub parts : List PartStored
  pub stored : AreStored limits lefts parts
  pub dropped : Dropped takes refuses start parts now

-- ---- how reading ended

-- the fault that it ended with, if any
abbrev pub stopped_by : {A : Type 0} → Result A StoredFault → Option StoredFault
stopped_by (Ok done) = None
stopped_by (Err fault) = Some fault

-- why reading stops where a part is refused: the scratch took no more, or the part has a fault
abbrev pub stop_of : Option ScratchFault → ℕ → PartFault → StoredFault
stop_of (Some why) index (faults.Sink sinks.Failed) = stops.Scratch why
stop_of full index fault = stops.Part index fault

-- how many of the readers were read to their ends: all, or those before the one that was refused, or some
abbrev pub AreSoMany : Option StoredFault → (all count : ℕ) → Type 0
AreSoMany (Some (stops.Part index fault)) all count = count ≡ index
AreSoMany (Some (stops.Scratch why)) all count = count ≤ all
AreSoMany ended all count = count ≡ all

-- the readers that were read to their ends, and the summaries of what they told
--   old, new: the readers, before and afterwards
pub record ReadsFirst {R S : Type 0} (left : R → Option (List ℕ)) (health : R → Health) (pulls : R → ℕ)
    (holds : S → List PartSummary → Type 0) (limits : Limits) (old new : List R) (ended : Option StoredFault) (kept : S) : Type 0 where
  pub count : ℕ
  pub so_many : AreSoMany ended (length old) count
  pub read_out : AreReadOut left health pulls limits old new count
  pub summaries : HoldsFirst left holds old count kept

-- ---- a part that is refused

module _ {R : Type 0} (left : R → Option (List ℕ)) (health : R → Health) (pulls : R → ℕ) where
  -- the reader at that place was refused, and those before it gave their parts
  pub record StopsReader (limits : Limits) (old new : List R) (index : ℕ) (fault : PartFault) : Type 0 where
    pub given : List Given
    pub of_readers : AreGiven limits (map left (take index old)) given
    pub at : RefusesAt left health pulls HaveObject limits given old new index fault

-- ---- scratch

-- memory ran out before anything was read, or the scratch took no more objects of the readers
abbrev pub StopsForScratch : {R : Type 0} → List R → List R → ScratchFault → Type 0
StopsForScratch old new scratches.OutOfMemory = new ≡ old
StopsForScratch old new other = old ≢ []

-- ---- reading all parts

module _ {R : Type 0} (left : R → Option (List ℕ)) (health : R → Health) (pulls : R → ℕ) {S T E : Type 0} {g : Ghosts S}
    (written : S → Option (List ℕ)) (well : S → Health) (takes : T → IdSize → FactValue → T → Type 0)
    (refuses : T → IdSize → FactValue → E → T → Type 0) (limits : Limits) (scratch : Option (List ℕ)) (start : Option T) where
  -- so many readers were read to their ends, and the sink was given their parts
  pub record StoresFirst (old : List R) (count : ℕ) (it : WatchedSink S T g) : Type 0 where
    pub parts : List PartStored
    pub all : length parts ≡ count
    pub stored : AreStored limits (map left (take count old)) parts
    pub given : AreGiven limits (map left (take count old)) (given_of parts)
    pub holds : HoldsAll written well limits (parts_before scratch parts) (storing it.sink)
    pub watched : Watched takes start parts it.watch
    pub dropped : Dropped takes refuses start parts it.watch

  -- all readers were read to their ends, or one was refused, or the scratch took no more
  abbrev pub StoresAll : List R → Result (WatchedSink S T g) StoredFault → List R → Type 0
  StoresAll old (Ok sink) new = StoresFirst old (length old) sink
  StoresAll old (Err (stops.Part index fault)) new = StopsReader left health pulls limits old new index fault
  StoresAll old (Err (stops.Scratch why)) new = StopsForScratch old new why
  StoresAll old (Err other) new = ⊥

-- ---- the answer

-- the heap of what was given, or why there is none
abbrev pub TellsStored : List Given → Result Heap StoredFault → Type 0
TellsStored given (Ok heap) = Tells given (Ok (heap_of heap))
TellsStored given (Err stops.NoParts) = Tells given (Err refusals.NoParts)
TellsStored given (Err stops.IdSizes) = Tells given (Err refusals.IdSizes)
TellsStored given (Err (stops.Conflict key)) = Tells given (Err (refusals.Conflict key))
TellsStored given (Err other) = ⊥

-- all parts were read
abbrev pub AreAllRead : Option StoredFault → Type 0
AreAllRead (Some (stops.Part index fault)) = ⊥
AreAllRead (Some (stops.Scratch why)) = ⊥
AreAllRead other = ⊤

-- what reading answers of the parts, as `Reads` says it, and memory is taken for each object; a conflict of objects is not among the
-- answers
--   old, new: the readers, before and afterwards;  ended: the fault that reading ended with, if any
pub record ReadsStored {R : Type 0} (left : R → Option (List ℕ)) (health : R → Health) (pulls : R → ℕ) (limits : Limits) (old new : List R)
    (ended : Option StoredFault) : Type 0 where
  -- there are no parts; if the scratch is there, this is the answer
  pub no_parts : ended ≡ Some stops.NoParts → old ≡ []
  pub of_none : old ≡ [] → (ended ≡ Some (stops.Scratch scratches.OutOfMemory)) ⊎ (ended ≡ Some stops.NoParts)
  -- two parts have different sizes
  pub id_sizes : ended ≡ Some stops.IdSizes → (parts : List (List ℕ)) → Tell left old parts → HaveTwoSizes parts
  -- the parts have one size, and this is the least key with two contents, also among objects
  pub conflict : (key : Key) → ended ≡ Some (stops.Conflict key) → (parts : List (List ℕ)) → Tell left old parts → Disagree parts key
  -- that part was refused with that fault
  pub part : (index : ℕ) (fault : PartFault) → ended ≡ Some (stops.Part index fault) → (parts : List (List ℕ)) → Tell left old parts
      → RefusesPart left health pulls HaveObject limits parts old new index fault
  -- the scratch took no more
  pub scratch : (why : ScratchFault) → ended ≡ Some (stops.Scratch why) → StopsForScratch old new why
  -- where all were read, all were accepted
  pub accepted : AreAllRead ended → (parts : List (List ℕ)) → Tell left old parts → AllByRecursion (IsAccepted limits) parts

-- memory was wanted, a limit was met, or the scratch took no more
abbrev pub IsHinderedStored : Option StoredFault → Type 0
IsHinderedStored (Some (stops.Part index fault)) = is_resource_fault fault ≡ true
IsHinderedStored (Some (stops.Scratch why)) = ⊤
IsHinderedStored other = ⊥

abbrev pub IsOkOrConflictStored : Option StoredFault → Type 0
IsOkOrConflictStored None = ⊤
IsOkOrConflictStored (Some (stops.Conflict key)) = ⊤
IsOkOrConflictStored other = ⊥
