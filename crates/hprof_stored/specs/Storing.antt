-- What a sink that keeps objects apart shows, and what headers and facts do to it.
use Rattle.std.specs.Prelude.{◌≡◌, ◌⊎◌, ℕ, Bool, true, false, List, [], length, Option, Some, None, ⊤}
use Rattle.std.specs.List.{list_any}
use Rattle.hprof_items.specs.declared.header.Header.{Header}
use Rattle.hprof_items.specs.FactValue.{FactValue}
use Rattle.hprof_devices.specs.declared.health.Health.{Health}
use Rattle.hprof_devices.specs.declared.target.Target.{Ghosts}
use Rattle.hprof_stream.specs.declared.limits.Limits.{Limits}
use Rattle.hprof_stream.specs.declared.part_place.PartPlace.{PartPlace}
use Rattle.hprof_stream.specs.declared.sink.SinkFault.{SinkFault}
use Rattle.hprof_stream.specs.declared.sink.SinkFault.TheVariants as sinks
use Rattle.hprof_heap.specs.Gathering.{Gathered, Begins, Takes, LacksRow, gathered}
use Rattle.hprof_runs.specs.declared.scratch_fault.ScratchFault.{ScratchFault}
use Rattle.hprof_runs.specs.declared.scratch_fault.ScratchFault.TheVariants as scratches
use Rattle.hprof_objects.specs.declared.object_log.ObjectLog.{ObjectLog}
use Rattle.hprof_objects.specs.Log.{HasLogged, HoldsParts, IsPlaceNow}
use Rattle.hprof_objects.specs.PartsRead.{PartRead, with_fact}
use Rattle.hprof_objects.specs.Whole.{is_object}
use Rattle.hprof_stored.specs.declared.stored_sink.StoredSink.{StoredSink}

-- what it gathered, and the log of objects; the number of the part, the last place before its header, and whether the header came; whether
-- a call answered a fault, and why the scratch took no more
pub record Storing (S : Type 0) : Type 0 where
  pub gathered : Gathered
  pub log : ObjectLog S
  pub part : ℕ
  pub place : Option PartPlace
  pub within : Bool
  pub failed : Bool
  pub full : Option ScratchFault

abbrev pub storing : {S : Type 0} {g : Ghosts S} → StoredSink S g → Storing S
storing sink = record {
  gathered = gathered sink.gatherer;
  log = sink.log;
  part = sink.part;
  place = sink.place;
  within = sink.within;
  failed = sink.failed;
  full = sink.full;
}

-- a part of whose facts none was taken
abbrev pub part_headed : Header → List ℕ → PartRead
part_headed header bytes = record { ids = header.ids; bytes = bytes; facts = [] }

-- an object leaves what was gathered as it is, and other facts are taken
abbrev pub TakesOther : Bool → Gathered → FactValue → Gathered → Type 0
TakesOther true old fact new = new ≡ old
TakesOther false old fact new = Takes old fact new

-- what came last had an object
abbrev pub HaveObject : List FactValue → Type 0
HaveObject facts = list_any is_object facts ≡ true

-- the scratch took no more, and not for want of memory
abbrev pub IsFull : Option ScratchFault → Type 0
IsFull None = ⊥
IsFull (Some scratches.OutOfMemory) = ⊥
IsFull (Some scratches.Full) = ⊤
IsFull (Some (scratches.Write fault)) = ⊤

-- memory is wanted for an object, or for another fact that is new; else the scratch took no more
abbrev pub IsStoredRefusal : Gathered → List FactValue → SinkFault → Option ScratchFault → Type 0
IsStoredRefusal gathered given sinks.OutOfMemory full = HaveObject given ⊎ LacksRow gathered given
IsStoredRefusal gathered given sinks.Failed full = IsFull full

-- what a fault says of a sink that answered none before
abbrev pub RefusesStored : {S : Type 0} → Storing S → List FactValue → SinkFault → Storing S → Type 0
RefusesStored old given fault new = old.failed ≡ false → old.gathered.failed ≡ false → IsStoredRefusal old.gathered given fault new.full

module _ {S : Type 0} (written : S → Option (List ℕ)) (health : S → Health) where
  -- a header begins the part of that number, also for the log
  pub record BeginsStored (old : Storing S) (header : Header) (new : Storing S) : Type 0 where
    pub gathers : Begins old.gathered header new.gathered
    pub logs : (limits : Limits) (parts : List PartRead) (bytes : List ℕ) → HoldsParts written health limits parts old.log
        → old.part ≡ length parts → IsPlaceNow limits (part_headed header bytes) old.place
        → HasLogged written health limits parts (part_headed header bytes) new.log
    pub part : new.part ≡ old.part
    pub within : new.within ≡ true
    pub sound : new.failed ≡ false

  -- an object is logged, and another fact is gathered
  pub record StepsStored (old : Storing S) (fact : FactValue) (new : Storing S) : Type 0 where
    pub gathers : TakesOther (is_object fact) old.gathered fact new.gathered
    pub begun : new.gathered.begun ≡ old.gathered.begun
    pub logs : (limits : Limits) (parts : List PartRead) (part : PartRead) → old.gathered.begun ≡ Some part.ids
        → HasLogged written health limits parts part old.log → HasLogged written health limits parts (with_fact part fact) new.log
    pub part : new.part ≡ old.part
    pub within : new.within ≡ old.within
    pub sound : new.failed ≡ false
