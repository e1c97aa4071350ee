-- What reading answers, by how it ended.
use Rattle.std.proofs.Common.{◌≡◌, ◌≤◌, ◌⊎◌, ℕ, List, [], ◌∷◌, length, take, map, Option, Some, None, Result, Ok, Err, inl, inr}
use Rattle.std.proofs.Common.{refl, sym}
use Rattle.std.proofs.Common.{subst}
use Rattle.std.specs.Prelude.{slice_get}
use Rattle.std.specs.List.{All}
use Rattle.std.specs.Result.{IsErrAnd}
use Rattle.std.proofs.Math.Seq.{take-length}
use Rattle.hprof_values.specs.declared.ids.IdSize.{IdSize}
use Rattle.hprof_items.specs.FactValue.{FactValue}
use Rattle.hprof_items.specs.Spelling.{longest_body}
use Rattle.hprof_devices.specs.declared.health.Health.{Health}
use Rattle.hprof_devices.specs.declared.health.Health.TheVariants as healths
use Rattle.hprof_devices.specs.declared.target.Target.{Ghosts}
use Rattle.hprof_stream.specs.declared.limits.Limits.{Limits}
use Rattle.hprof_stream.specs.declared.part_fault.PartFault.{PartFault}
use Rattle.hprof_rows.specs.declared.key.Key.{Key}
use Rattle.hprof_rows.specs.HeapValue.{HeapValue}
use Rattle.hprof_heap.specs.declared.heap.Heap.{Heap}
use Rattle.hprof_heap.specs.declared.standing.Refusal.{Refusal}
use Rattle.hprof_heap.specs.declared.standing.Refusal.TheVariants as refusals
use Rattle.hprof_heap.specs.Gathering.{Tells}
use Rattle.hprof_heap.specs.Heap.{heap_of}
use Rattle.hprof_heap.specs.State.{HaveTwoSizes, IsState}
use Rattle.hprof_heap.proofs.Least.{no_least}
use Rattle.hprof_runs.specs.declared.scratch_fault.ScratchFault.{ScratchFault}
use Rattle.hprof_runs.specs.declared.scratch_fault.ScratchFault.TheVariants as scratches
use Rattle.hprof_engine.specs.Joining.{AreGiven, Disagree, RefusesPart, Tell}
use Rattle.hprof_engine.proofs.Answers.{all_accepted, disagree, never_refused, no_parts, no_readers, not_two_sizes, some_parts, two_sizes}
use Rattle.hprof_engine.proofs.PartFaults.{of_part}
use Rattle.hprof_engine.proofs.Stated.{given_sound, placed}
use Rattle.hprof_stored.specs.declared.stored_fault.StoredFault.{StoredFault}
use Rattle.hprof_stored.specs.declared.stored_fault.StoredFault.TheVariants as stops
use Rattle.hprof_stored.specs.Parts.{AreStored, PartStored, given_of, others_of}
use Rattle.hprof_stored.specs.Reading.{IsHinderedStored, IsOkOrConflictStored, ReadsStored, StopsForScratch, StopsReader}
use Rattle.hprof_stored.specs.Reading.{StoresAll, TellsStored, stopped_by}
use Rattle.hprof_stored.specs.Storing.{HaveObject}

-- what holds at a fault holds of an answer that is this fault
pub of_fault : {A : Type 0} (P : Result A StoredFault → Type 0) (answer : Result A StoredFault) (fault : StoredFault)
    → IsErrAnd answer (λ e. e ≡ fault) → P (Err fault) → P answer
of_fault P (Ok done) fault is holds = absurd is
of_fault P (Err other) fault is holds = subst (λ (f : StoredFault). P (Err f)) (sym is) holds

-- the answers that end reading without trouble, where parts state something together
abbrev pub HasNoOther : {R : Type 0} → (R → Option (List ℕ)) → (R → Health) → List R → List R → Option StoredFault → Type 0
HasNoOther left health old new ended = (parts : List (List ℕ)) (ids : IdSize) (millis : ℕ) (facts : List FactValue) → Tell left old parts
    → IsState parts ids millis facts → All (λ reader. health reader ≡ healths.Well) new → (IsHinderedStored ended → ⊥)
    → IsOkOrConflictStored ended

some_reader : {R : Type 0} (old : List R) (index : ℕ) (was : R) → slice_get old index ≡ Some was → old ≡ [] → ⊥
some_reader [] index was there none = absurd cc
some_reader (reader ∷ old) index was there none = cc

-- ---- a part was refused

module _ {R : Type 0} (left : R → Option (List ℕ)) (health : R → Health) (pulls : R → ℕ) (limits : Limits) where
  stops_part : (parts : List (List ℕ)) (old new : List R) (index : ℕ) (fault : PartFault) → Tell left old parts
      → StopsReader left health pulls limits old new index fault
      → RefusesPart left health pulls HaveObject limits parts old new index fault
  stops_part parts old new index fault told is =
      let place = placed left old parts index is.at.was told is.at.was_there in
      let stated = subst (λ (ls : List (Option (List ℕ))). AreGiven limits ls is.given) place.told_before is.of_readers in
      record {
        before = place.before;
        bytes = place.bytes;
        after = place.after;
        in_order = place.in_order;
        place = place.place;
        accepted = given_sound limits place.before is.given stated;
        given = is.given;
        stated = stated;
        at = is.at;
        told = place.told;
        of_part = of_part left health pulls HaveObject limits is.given is.at.was place.bytes is.at.came is.at.is fault place.told
            is.at.consumed is.at.refused;
      }

  none_for_scratch : (old new : List R) (why : ScratchFault) → StopsForScratch old new why → old ≡ []
      → (Some (stops.Scratch why) ≡ Some (stops.Scratch scratches.OutOfMemory)) ⊎ (Some (stops.Scratch why) ≡ Some stops.NoParts)
  none_for_scratch old new scratches.OutOfMemory is none = inl refl
  none_for_scratch old new scratches.Full is none = absurd (is none)
  none_for_scratch old new (scratches.Write fault) is none = absurd (is none)

  -- reading ended with a fault
  pub stopped : {S T E : Type 0} (g : Ghosts S) (written : S → Option (List ℕ)) (well : S → Health)
      (takes : T → IdSize → FactValue → T → Type 0) (refuses : T → IdSize → FactValue → E → T → Type 0) (scratch : Option (List ℕ))
      (start : Option T) (old new : List R) (fault : StoredFault)
      → StoresAll left health pulls {S = S} {g = g} written well takes refuses limits scratch start old (Err fault) new
      → limits.max_item ≤ longest_body
      → ReadsStored left health pulls limits old new (Some fault) × HasNoOther left health old new (Some fault)
  stopped g written well takes refuses scratch start old new (stops.Part index fault) reads le = (
    record {
      no_parts = λ e. absurd cc;
      of_none = λ none. absurd (some_reader old index reads.at.was reads.at.was_there none);
      id_sizes = λ e. absurd cc;
      conflict = λ key e. absurd cc;
      part = λ other why e parts told.
          let one : stops.Part index fault ≡ stops.Part other why = cc in
          stops_part parts old new other why told
          (subst (λ (f : StoredFault). StoresAll left health pulls {g = g} written well takes refuses limits scratch start old (Err f) new)
          one reads);
      scratch = λ why e. absurd cc;
      accepted = λ all. absurd all;
    },
    λ parts ids millis facts told state fine unhindered. absurd (never_refused left health pulls HaveObject limits parts ids millis
        facts old new
        index fault le state
        (stops_part parts old new index fault told reads) fine unhindered),
  )
  stopped g written well takes refuses scratch start old new (stops.Scratch why) reads le = (
    record {
      no_parts = λ e. absurd cc;
      of_none = none_for_scratch old new why reads;
      id_sizes = λ e. absurd cc;
      conflict = λ key e. absurd cc;
      part = λ other fault e. absurd cc;
      scratch = λ other e. let one : why ≡ other = cc in subst (StopsForScratch old new) one reads;
      accepted = λ all. absurd all;
    },
    λ parts ids millis facts told state fine unhindered. absurd (unhindered tt),
  )
  stopped g written well takes refuses scratch start old new stops.NoParts reads le = absurd reads
  stopped g written well takes refuses scratch start old new stops.IdSizes reads le = absurd reads
  stopped g written well takes refuses scratch start old new (stops.Conflict key) reads le = absurd reads

-- ---- all parts were read

gave_none : {R : Type 0} (left : R → Option (List ℕ)) (limits : Limits) (old : List R) (parts : List PartStored)
    → AreStored limits (map left (take (length old) old)) parts → old ≡ [] → parts ≡ []
gave_none left limits [] [] are none = refl
gave_none left limits [] (part ∷ parts) are none = absurd are
gave_none left limits (reader ∷ old) parts are none = absurd cc

nothing_told : (parts : List PartStored) (heap : HeapValue) → Tells (others_of parts) (Ok heap) → parts ≡ [] → ⊥
nothing_told [] heap tells none = no_least heap.millis tells.1
nothing_told (part ∷ parts) heap tells none = cc

module _ {R : Type 0} (left : R → Option (List ℕ)) (health : R → Health) (pulls : R → ℕ) (limits : Limits) (old new : List R)
    (stored : List PartStored) (are : AreStored limits (map left (take (length old) old)) stored)
    (of_readers : AreGiven limits (map left (take (length old) old)) (given_of stored))
    (refuse : (refusal : Refusal) → Tells (others_of stored) (Err refusal) → Tells (given_of stored) (Err refusal)) where
  reads_as : (ended : Option StoredFault) → (ended ≡ Some stops.NoParts → old ≡ []) → (old ≡ [] → ended ≡ Some stops.NoParts)
      → (ended ≡ Some stops.IdSizes → (parts : List (List ℕ)) → Tell left old parts → HaveTwoSizes parts)
      → ((key : Key) → ended ≡ Some (stops.Conflict key) → (parts : List (List ℕ)) → Tell left old parts → Disagree parts key)
      → ((index : ℕ) (fault : PartFault) → ended ≡ Some (stops.Part index fault) → ⊥)
      → ((why : ScratchFault) → ended ≡ Some (stops.Scratch why) → ⊥)
      → ReadsStored left health pulls limits old new ended
  reads_as ended none of_none sizes conflicts part scratch = record {
    no_parts = none;
    of_none = λ e. inr (of_none e);
    id_sizes = sizes;
    conflict = conflicts;
    part = λ index fault e parts told. absurd (part index fault e);
    scratch = λ why e. absurd (scratch why e);
    accepted = λ _ parts told. all_accepted left limits old (given_of stored) of_readers parts told;
  }

  -- no readers are refused for no other reason
  of_no_parts : (refusal : Refusal) → Tells (given_of stored) (Err refusal) → old ≡ []
      → ◌≡◌ {A = Result HeapValue Refusal} (Err refusal) (Err refusals.NoParts)
  of_no_parts refusal tells none = no_parts left limits old (given_of stored) of_readers none (Err refusal) tells

  pub answered : (answer : Result Heap StoredFault) → TellsStored (others_of stored) answer
      → ReadsStored left health pulls limits old new (stopped_by answer) × HasNoOther left health old new (stopped_by answer)
  answered (Ok heap) tells = (
    reads_as None (λ e. absurd cc) (λ none. absurd (nothing_told stored (heap_of heap) tells (gave_none left limits old stored are none)))
        (λ e. absurd cc) (λ key e. absurd cc) (λ index fault e. cc) (λ why e. cc),
    λ parts ids millis facts told state fine unhindered. tt,
  )
  answered (Err stops.NoParts) tells =
      let none = no_readers left limits old (given_of stored) of_readers (refuse refusals.NoParts tells) in (
        reads_as (Some stops.NoParts) (λ e. none) (λ e. refl) (λ e. absurd cc) (λ key e. absurd cc) (λ index fault e. cc) (λ why e. cc),
        λ parts ids millis facts told state fine unhindered. absurd (some_parts left old parts ids millis facts told state none),
      )
  answered (Err stops.IdSizes) tells =
      let all = refuse refusals.IdSizes tells in (
        reads_as (Some stops.IdSizes) (λ e. absurd cc)
            (λ none. absurd (let no = of_no_parts refusals.IdSizes all none in cc))
            (λ e parts told. two_sizes left limits old (given_of stored) of_readers parts told all) (λ key e. absurd cc)
            (λ index fault e. cc) (λ why e. cc),
        λ parts ids millis facts told state fine unhindered. absurd (not_two_sizes parts ids millis facts state
            (two_sizes left limits old (given_of stored) of_readers parts told all)),
      )
  answered (Err (stops.Conflict key)) tells =
      let all = refuse (refusals.Conflict key) tells in (
        reads_as (Some (stops.Conflict key)) (λ e. absurd cc)
            (λ none. absurd (let no = of_no_parts (refusals.Conflict key) all none in cc))
            (λ e. absurd cc)
            (λ named e parts told. let one : key ≡ named = cc in subst (Disagree parts) one
            (disagree left limits old (given_of stored) of_readers parts told key all)) (λ index fault e. cc) (λ why e. cc),
        λ parts ids millis facts told state fine unhindered. tt,
      )
  answered (Err (stops.Part index fault)) tells = absurd tells
  answered (Err (stops.Scratch why)) tells = absurd tells

-- what all readers gave
pub by_all : {R : Type 0} (left : R → Option (List ℕ)) (P : List (Option (List ℕ)) → Type 0) (old : List R)
    → P (map left (take (length old) old)) → P (map left old)
by_all left P old holds = subst (λ (rs : List _). P (map left rs)) (take-length old) holds
