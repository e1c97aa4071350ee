-- A part that is read into a sink that holds the parts before it.
use Rattle.std.proofs.Common.{◌≡◌, ◌≢◌, ◌⊎◌, ◌≤◌, ℕ, false, List, [], ◌∷◌, Option, Some, None, Ok, Err, inl, inr, refl, sym, ap, subst}
use Rattle.std.proofs.Common.{◌∙◌}
use Rattle.std.specs.Prelude.{slice_get}
use Rattle.hprof_values.specs.declared.ids.IdSize.{IdSize}
use Rattle.hprof_items.specs.declared.header.Header.{Header}
use Rattle.hprof_items.specs.FactValue.{FactValue}
use Rattle.hprof_devices.specs.declared.health.Health.{Health}
use Rattle.hprof_devices.specs.declared.target.Target.{Ghosts}
use Rattle.hprof_stream.specs.declared.limits.Limits.{Limits}
use Rattle.hprof_stream.specs.declared.part_fault.PartFault.{PartFault}
use Rattle.hprof_stream.specs.declared.part_fault.PartFault.TheVariants as faults
use Rattle.hprof_stream.specs.declared.part_place.PartPlace.{PartPlace}
use Rattle.hprof_stream.specs.declared.sink.SinkFault.{SinkFault}
use Rattle.hprof_stream.specs.declared.sink.SinkFault.TheVariants as sinks
use Rattle.hprof_stream.specs.declared.summary.PartSummary.{PartSummary}
use Rattle.hprof_stream.specs.Item.{AreItems, Place, Start, header_before}
use Rattle.hprof_stream.specs.Part.{IsPart, Stated, all_facts}
use Rattle.hprof_stream.proofs.ItemLists.{items_at_start}
use Rattle.hprof_heap.specs.Gathering.{IsNewBehind, LacksRow, nothing_gathered}
use Rattle.hprof_heap.proofs.Told.{new_behind}
use Rattle.hprof_runs.specs.declared.scratch_fault.ScratchFault.{ScratchFault}
use Rattle.hprof_runs.specs.declared.scratch_fault.ScratchFault.TheVariants as scratches
use Rattle.hprof_objects.specs.Log.{IsPlaceNow}
use Rattle.hprof_objects.specs.Whole.{no_objects}
use Rattle.hprof_engine.proofs.Gathered.{Gathers-sound, Run-sound}
use Rattle.hprof_placed.specs.Handed.{Handed}
use Rattle.hprof_placed.specs.Reading.{HoldsHanded, ListsPart}
use Rattle.hprof_placed.proofs.Listing.{handed_up_to, handed_whole}
use Rattle.hprof_stored.specs.declared.watched_sink.WatchedSink.{WatchedSink}
use Rattle.hprof_stored.specs.Holding.{Earlier, HoldsAll, HoldsStored, others_before, parts_before}
use Rattle.hprof_stored.specs.Parts.{PartStored, given_of}
use Rattle.hprof_engine.specs.Joining.{IsPartFault}
use Rattle.hprof_stored.specs.Reading.{AreSoMany, StopsForScratch, StopsReader, StoresAll, stop_of}
use Rattle.hprof_stored.specs.Storing.{HaveObject, IsFull, IsStoredRefusal, RefusesStored, Storing, storing}
use Rattle.hprof_stored.specs.WatchedSink.{EarlierWatched, HoldsWatchedSink}
use Rattle.hprof_stored.specs.Watching.{Dropped, Watched}
use Rattle.hprof_stored.proofs.Fresh.{new_behind_all}

abbrev pub watched_after : {T : Type 0} → Option (List ℕ) → List PartStored → Option T → EarlierWatched T
watched_after scratch parts start = record { scratch = scratch; parts = parts; start = start }

no_place : (limits : Limits) (it : Option PartPlace) → it ≡ None → (part : _) → IsPlaceNow limits part it
no_place limits None e part = tt
no_place limits (Some place) e part = absurd cc

module _ {S : Type 0} (written : S → Option (List ℕ)) (well : S → Health) (limits : Limits) (earlier : Earlier) where
  -- before a part nothing of it is there
  pub part_starts : (it : Storing S) → HoldsAll written well limits earlier it → HoldsStored written well limits earlier None [] [] it
  part_starts it all = record {
    gathers = all.gathers;
    logs = all.logs;
    number = all.number;
    place = λ ids. no_place limits it.place all.none (record { ids = ids; bytes = []; facts = [] });
    without = all.without;
    sound = all.sound;
  }

  -- what was gathered is sound, and lacks only what is new
  gathered_sound : (header : Option Header) (bytes : List ℕ) (facts : List FactValue) (it : Storing S)
      → HoldsStored written well limits earlier header bytes facts it → it.gathered.failed ≡ false
  gathered_sound None bytes facts it held = Gathers-sound nothing_gathered it.gathered (others_before earlier) held.gathers refl
  gathered_sound (Some header) bytes facts it held =
      Run-sound held.mid it.gathered (Some header) (no_objects facts) held.ran
      (Gathers-sound nothing_gathered held.mid (others_before earlier) held.gathers refl)

  is_sound : (header : Option Header) (bytes : List ℕ) (facts : List FactValue) (it : Storing S)
      → HoldsStored written well limits earlier header bytes facts it → it.failed ≡ false
  is_sound None bytes facts it held = held.sound
  is_sound (Some header) bytes facts it held = held.sound

  new_among_others : (header : Option Header) (bytes : List ℕ) (facts given : List FactValue) (it : Storing S)
      → (header ≡ None → facts ≡ []) → HoldsStored written well limits earlier header bytes facts it → LacksRow it.gathered given
      → IsNewBehind (others_before earlier) header (no_objects facts) given
  new_among_others None bytes facts given it bare held lacks =
      subst (λ (l : List FactValue). IsNewBehind (others_before earlier) None (no_objects l) given) (sym (bare refl))
      (new_behind (others_before earlier) None [] given it.gathered it.gathered held.gathers refl lacks)
  new_among_others (Some header) bytes facts given it bare held lacks =
      new_behind (others_before earlier) (Some header) (no_objects facts) given held.mid it.gathered held.gathers held.ran lacks

  -- why an item was refused
  refused_for : (header : Option Header) (bytes : List ℕ) (facts given : List FactValue) (fault : SinkFault) (mid new : Storing S)
      → (header ≡ None → facts ≡ []) → HoldsStored written well limits earlier header bytes facts mid → RefusesStored mid given fault new
      → IsStoredRefusal mid.gathered given fault new.full
  refused_for header bytes facts given fault mid new bare held refused =
      refused (is_sound header bytes facts mid held) (gathered_sound header bytes facts mid held)

  wants_for : (header : Option Header) (bytes : List ℕ) (facts given : List FactValue) (mid : Storing S)
      → (header ≡ None → facts ≡ []) → HoldsStored written well limits earlier header bytes facts mid
      → HaveObject given ⊎ LacksRow mid.gathered given → HaveObject given ⊎ IsNewBehind earlier.given header facts given
  wants_for header bytes facts given mid bare held (inl object) = inl object
  wants_for header bytes facts given mid bare held (inr lacks) =
      new_behind_all earlier.given header facts given (new_among_others header bytes facts given mid bare held lacks)

  -- items before a header state no fact
  no_fact : (longest : ℕ) (items : List Stated) (place : Place) → AreItems longest Start items place → header_before place ≡ None
      → all_facts items ≡ []
  no_fact longest items place each bare = ap all_facts (items_at_start longest Start place items each bare).1

  -- ---- the facts before an item that is refused

  module _ {R : Type 0} (left : R → Option (List ℕ)) (health : R → Health) (pulls : R → ℕ) (was is : R) (came before : List ℕ)
      (handed : Handed) (mid new : Storing S) (held : HoldsStored written well limits earlier handed.header before handed.facts mid) where
    bare_item : (fault : SinkFault) → (reads : ListsPart left health pulls limits was came is (Err (faults.Sink fault)) handed)
        → handed.header ≡ None → handed.facts ≡ []
    bare_item fault reads none =
        let up = handed_up_to left health pulls limits was is came fault handed reads in
        let whole = reads.0.1.whole in
        up.has_facts ∙ no_fact limits.max_item whole.items whole.before whole.each (sym up.has_header ∙ none)

    -- the scratch took no more
    pub is_full : ListsPart left health pulls limits was came is (Err (faults.Sink sinks.Failed)) handed
        → RefusesStored mid handed.refused sinks.Failed new → IsFull new.full
    is_full reads refused =
        refused_for handed.header before handed.facts handed.refused sinks.Failed mid new (bare_item sinks.Failed reads) held refused

    -- memory was wanted
    pub is_fault_of_part : (reads : ListsPart left health pulls limits was came is (Err (faults.Sink sinks.OutOfMemory)) handed)
        → RefusesStored mid handed.refused sinks.OutOfMemory new
        → IsPartFault left health pulls HaveObject limits earlier.given was came is (faults.Sink sinks.OutOfMemory)
    is_fault_of_part reads refused =
        let up = handed_up_to left health pulls limits was is came sinks.OutOfMemory handed reads in
        let bare = bare_item sinks.OutOfMemory reads in
        let why = refused_for handed.header before handed.facts handed.refused sinks.OutOfMemory mid new bare held refused in
        let wants = wants_for handed.header before handed.facts handed.refused mid bare held why in (
          reads.0,
          subst (λ (l : List FactValue). HaveObject l
              ⊎ IsNewBehind earlier.given (header_before reads.0.1.whole.before) (all_facts reads.0.1.whole.items) l) up.has_refused
              (subst (λ (l : List FactValue). HaveObject handed.refused
              ⊎ IsNewBehind earlier.given (header_before reads.0.1.whole.before) l handed.refused) up.has_facts
              (subst (λ (h : Option Header). HaveObject handed.refused ⊎ IsNewBehind earlier.given h handed.facts handed.refused)
              up.has_header wants)),
        )

-- the same of a sink that shows objects to another
module _ {S : Type 0} (written : S → Option (List ℕ)) (well : S → Health) (limits : Limits) (scratch : Option (List ℕ))
    (parts : List PartStored) where
  module _ {T E : Type 0} {g : Ghosts S} (takes : T → IdSize → FactValue → T → Type 0)
      (refuses : T → IdSize → FactValue → E → T → Type 0) (start : Option T) where
    -- nor was any of its objects shown
    pub watched_starts : (it : WatchedSink S T g) → HoldsAll written well limits (parts_before scratch parts) (storing it.sink)
        → Watched takes start parts it.watch → Dropped takes refuses start parts it.watch
        → HoldsWatchedSink {g = g} written well takes refuses limits (watched_after scratch parts start) None [] [] it
    watched_starts it all watched dropped =
        record {
          stored = part_starts written well limits (parts_before scratch parts) (storing it.sink) all;
          watches = watched;
          dropped = dropped;
        }

    module _ {R : Type 0} (left : R → Option (List ℕ)) (health : R → Health) (pulls : R → ℕ) where
      -- at its end, all facts of the part
      pub read_whole : (was is : R) (came before : List ℕ) (summary : PartSummary) (handed : Handed) (mid : WatchedSink S T g)
          → ListsPart left health pulls limits was came is (Ok summary) handed
          → HoldsWatchedSink {g = g} written well takes refuses limits (watched_after scratch parts start) handed.header before handed.facts
          mid
          → (facts : List FactValue) × IsPart came summary.header.ids summary.header.millis facts
          × HoldsWatchedSink {g = g} written well takes refuses limits (watched_after scratch parts start) (Some summary.header) before
          facts mid
      read_whole was is came before summary handed mid reads held =
          let whole = handed_whole left health pulls limits was is came summary handed reads in (
            whole.0,
            whole.2,
            subst (λ (h : Handed). HoldsWatchedSink {g = g} written well takes refuses limits (watched_after scratch parts start) h.header
                before h.facts mid) whole.1 held,
          )

  module _ {T E : Type 0} {g : Ghosts S} (takes : T → IdSize → FactValue → T → Type 0)
      (refuses : T → IdSize → FactValue → E → T → Type 0) (start : Option T) {R : Type 0} (left : R → Option (List ℕ))
      (health : R → Health) (pulls : R → ℕ) (was is : R) (came : List ℕ) (handed : Handed) (new : WatchedSink S T g) where
    abbrev HoldsIt : WatchedSink S T g → Limits → Option Header → List ℕ → List FactValue → Type 0
    HoldsIt it within header bytes facts =
        HoldsWatchedSink {g = g} written well takes refuses within (watched_after scratch parts start) header bytes facts it

    abbrev pub Comes : PartFault → Type 0
    Comes fault =
        HoldsHanded HoldsIt
        (λ (old : WatchedSink S T g) given why (it : WatchedSink S T g). RefusesStored (storing old.sink) given why (storing it.sink))
        (λ (it : WatchedSink S T g). it.sink.failed) limits came (Err fault) handed new

    -- the scratch took no more
    pub watched_full : ListsPart left health pulls limits was came is (Err (faults.Sink sinks.Failed)) handed
        → Comes (faults.Sink sinks.Failed) → IsFull new.sink.full
    watched_full reads comes =
        is_full written well limits (parts_before scratch parts) left health pulls was is came comes.1.before handed (storing comes.0.sink)
        (storing new.sink) comes.1.held.stored reads comes.2.0

    -- with which fault the part is refused
    pub watched_fault : (fault : PartFault) → (fault ≡ faults.Sink sinks.Failed → ⊥)
        → ListsPart left health pulls limits was came is (Err fault) handed → Comes fault
        → IsPartFault left health pulls HaveObject limits (given_of parts) was came is fault
    watched_fault (faults.Sink sinks.OutOfMemory) other reads comes =
        is_fault_of_part written well limits (parts_before scratch parts) left health pulls was is came comes.1.before handed
        (storing comes.0.sink)
        (storing new.sink) comes.1.held.stored reads comes.2.0
    watched_fault (faults.Sink sinks.Failed) other reads comes = absurd (other refl)
    watched_fault fault other reads comes = reads.0

-- there is a reader
some_reader : {R : Type 0} (old : List R) (index : ℕ) (was : R) → slice_get old index ≡ Some was → old ≢ []
some_reader [] index was there = absurd cc
some_reader (reader ∷ old) index was there = λ none. cc

-- why the scratch stops it
stops_for : {R : Type 0} (old new : List R) → old ≢ [] → (why : ScratchFault) → IsFull (Some why) → StopsForScratch old new why
stops_for old new some scratches.OutOfMemory full = absurd full
stops_for old new some scratches.Full full = some
stops_for old new some (scratches.Write fault) full = some

-- how reading stops at a reader
module _ {R : Type 0} (left : R → Option (List ℕ)) (health : R → Health) (pulls : R → ℕ) {S T E : Type 0} (g : Ghosts S)
    (written : S → Option (List ℕ)) (well : S → Health) (takes : T → IdSize → FactValue → T → Type 0)
    (refuses : T → IdSize → FactValue → E → T → Type 0) (limits : Limits) (scratch : Option (List ℕ)) (start : Option T) (old new : List R)
    (index : ℕ) (was : R) (there : slice_get old index ≡ Some was) where
  pub stops_so : (full : Option ScratchFault) (fault : PartFault) → (fault ≡ faults.Sink sinks.Failed → IsFull full)
      → ((fault ≡ faults.Sink sinks.Failed → ⊥) → StopsReader left health pulls limits old new index fault)
      → StoresAll left health pulls {S = S} {g = g} written well takes refuses limits scratch start old (Err (stop_of full index fault)) new
  stops_so None (faults.Sink sinks.Failed) fills part = absurd (fills refl)
  stops_so (Some why) (faults.Sink sinks.Failed) fills part = stops_for old new (some_reader old index was there) why (fills refl)
  stops_so None fault fills part = part (λ e. cc)
  stops_so (Some why) fault fills part = part (λ e. cc)

-- how many readers were read to their ends then
pub so_many : (full : Option ScratchFault) (index all : ℕ) (fault : PartFault) → index ≤ all
    → AreSoMany (Some (stop_of full index fault)) all index
so_many None index all fault within = refl
so_many (Some why) index all (faults.Sink sinks.Failed) within = within
so_many (Some why) index all fault within = refl
