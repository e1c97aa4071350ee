-- A sink of parts that also shows their objects to a sink that watches: what it holds, and what headers and facts do to it.
use Rattle.std.specs.Prelude.{◌≡◌, ◌⊎◌, ◌≤◌, ℕ, List, [], Option, Some, None, ⊤}
use Rattle.hprof_values.specs.declared.ids.IdSize.{IdSize}
use Rattle.hprof_items.specs.declared.header.Header.{Header}
use Rattle.hprof_items.specs.FactValue.{FactValue}
use Rattle.hprof_devices.specs.declared.health.Health.{Health}
use Rattle.hprof_devices.specs.declared.target.Target.{Ghosts}
use Rattle.hprof_stream.specs.declared.limits.Limits.{Limits}
use Rattle.hprof_facts.specs.ObjectKeys.{object_key}
use Rattle.hprof_heap.specs.Gathering.{Given, gathered}
use Rattle.hprof_merge.specs.Rows.{ByteRow, Has}
use Rattle.hprof_objects.specs.Whole.{rows_given}
use Rattle.hprof_stored.specs.declared.watched_sink.WatchedSink.{WatchedSink}
use Rattle.hprof_stored.specs.Holding.{Earlier, HoldsStored, parts_before}
use Rattle.hprof_stored.specs.Parts.{PartStored}
use Rattle.hprof_stored.specs.Storing.{BeginsStored, StepsStored, storing}
use Rattle.hprof_stored.specs.Watching.{Dropped, EndsWatch, ShowsFact, StopsWatching, Watched, WatchesPart, WatchesParts}

-- what came before a part: the bytes of the scratch at first, where they are told, and the parts that were read to their ends; and the sink
-- that watches as it was at first, if there was one
pub record EarlierWatched (T : Type 0) : Type 0 where
  pub scratch : Option (List ℕ)
  pub parts : List PartStored
  pub start : Option T

abbrev pub earlier_of : {T : Type 0} → EarlierWatched T → Earlier
earlier_of earlier = parts_before earlier.scratch earlier.parts

-- one of the rows has this key, and none has a key above it; if there is none, there are no rows
abbrev pub IsHighest : List ByteRow → Option ℕ → Type 0
IsHighest rows None = rows ≡ []
IsHighest rows (Some highest) =
    ((bytes : List ℕ) × Has rows (highest, bytes)) × ((row : ByteRow) → Has rows row → row.0 ≤ highest)

module _ {T : Type 0} (takes : T → IdSize → FactValue → T → Type 0) where
  -- the sink that watches took the objects of parts, and those of one more so far
  pub record WatchesOn (start : T) (parts : List PartStored) (part : Given) (now : T) (last : Option ℕ) : Type 0 where
    pub mid : T
    pub before : WatchesParts takes start parts mid
    pub so_far : WatchesPart takes part mid now
    pub highest : IsHighest (rows_given part) last

  -- the same, if it is still there; a part has begun with its header
  abbrev pub WatchesSoFar : Option T → List PartStored → Option Header → List FactValue → Option T → Option ℕ → Type 0
  WatchesSoFar start parts None facts now last = Watched takes start parts now
  WatchesSoFar None parts (Some header) facts None last = ⊤
  WatchesSoFar (Some start) parts (Some header) facts None last = ⊤
  WatchesSoFar None parts (Some header) facts (Some now) last = ⊥
  WatchesSoFar (Some start) parts (Some header) facts (Some now) last =
      WatchesOn start parts (record { header = header; facts = facts }) now last

module _ {T E : Type 0} (takes : T → IdSize → FactValue → T → Type 0) (refuses : T → IdSize → FactValue → E → T → Type 0) where
  -- if the sink that watches is not there any more, one of the parts ended it, or the one that has begun with its header
  abbrev pub DroppedSoFar : Option T → List PartStored → Option Header → List FactValue → Option T → Type 0
  DroppedSoFar start parts None facts now = Dropped takes refuses start parts now
  DroppedSoFar None parts (Some header) facts now = ⊤
  DroppedSoFar (Some start) parts (Some header) facts (Some now) = ⊤
  DroppedSoFar (Some start) parts (Some header) facts None =
      StopsWatching takes refuses start parts ⊎ EndsWatch takes refuses start parts (record { header = header; facts = facts })

module _ {S T E : Type 0} {g : Ghosts S} (written : S → Option (List ℕ)) (health : S → Health)
    (takes : T → IdSize → FactValue → T → Type 0) (refuses : T → IdSize → FactValue → E → T → Type 0) where
  -- a header begins a part, of which no object was shown
  pub record BeginsWatched (old : WatchedSink S T g) (header : Header) (new : WatchedSink S T g) : Type 0 where
    pub stored : BeginsStored written health (storing old.sink) header (storing new.sink)
    pub watch : new.watch ≡ old.watch
    pub last : new.last ≡ None

  -- a fact is stored, and shown to the sink that watches
  pub record StepsWatched (old : WatchedSink S T g) (fact : FactValue) (new : WatchedSink S T g) : Type 0 where
    pub stored : StepsStored written health (storing old.sink) fact (storing new.sink)
    pub shown : (ids : IdSize) → (gathered old.sink.gatherer).begun ≡ Some ids
        → ShowsFact takes refuses ids fact (object_key fact) old.watch old.last new.watch new.last

  -- it was given the parts before, and of one part more this header, if it came, and these facts
  pub record HoldsWatchedSink (limits : Limits) (earlier : EarlierWatched T) (header : Option Header) (bytes : List ℕ)
      (facts : List FactValue) (it : WatchedSink S T g) : Type 0 where
    pub stored : HoldsStored written health limits (earlier_of earlier) header bytes facts (storing it.sink)
    pub watches : WatchesSoFar takes earlier.start earlier.parts header facts it.watch it.last
    pub dropped : DroppedSoFar takes refuses earlier.start earlier.parts header facts it.watch
