-- What the answers of a join say of the parts.
use Rattle.std.proofs.Common.{◌≡◌, inl, inr, ℕ, suc, ◌≤◌, true, List, [], ◌∷◌, ◌++◌, length, take, map, Option, Some, Result, Ok, Err, refl}
use Rattle.std.proofs.Common.{sym, ap, subst, ◌∙◌}
use Rattle.std.specs.Prelude.{slice_get, ◌↔◌, None, IfOk}
use Rattle.std.specs.List.{All, AllByRecursion}
use Rattle.std.proofs.Math.Seq.{take-length}
use Rattle.std.proofs.lemmas.Option.{get_or_from_slice_get, slice_get_within}
use Rattle.hprof_devices.specs.declared.health.Health.{Health}
use Rattle.hprof_devices.specs.declared.health.Health.TheVariants as healths
use Rattle.hprof_values.specs.declared.ids.IdSize.{IdSize}
use Rattle.hprof_values.specs.declared.ids.IdSize.TheVariants.{Four}
use Rattle.hprof_values.specs.declared.reason.Reason.{Reason}
use Rattle.hprof_items.specs.FactValue.{FactValue}
use Rattle.hprof_items.specs.Spelling.{longest_body}
use Rattle.hprof_stream.specs.declared.limits.Limits.{Limits}
use Rattle.hprof_stream.specs.declared.part_fault.PartFault.{PartFault}
use Rattle.hprof_stream.specs.declared.part_fault.PartFault.TheVariants as faults
use Rattle.hprof_stream.specs.declared.sink.SinkFault.TheVariants as sinks
use Rattle.hprof_stream.specs.declared.summary.PartSummary.{PartSummary}
use Rattle.hprof_stream.specs.Fault.{IsFirstFault}
use Rattle.hprof_stream.specs.Part.{IsPart}
use Rattle.hprof_stream.proofs.Faults.{first_fault_once, no_fault_no_first}
use Rattle.hprof_rows.specs.declared.key.Key.{Key}
use Rattle.hprof_heap.specs.declared.standing.Refusal.{Refusal}
use Rattle.hprof_heap.specs.declared.standing.Refusal.TheVariants as refusals
use Rattle.hprof_heap.specs.Gathering.{Gathered, Given, nothing_gathered, all_given, Gathers, Tells}
use Rattle.hprof_rows.specs.HeapValue.{HeapValue}
use Rattle.hprof_heap.specs.State.{PartState, StatesIt, IsLeastOf, IsState, HaveTwoSizes}
use Rattle.hprof_heap.proofs.Least.{no_least}
use Rattle.hprof_rows.proofs.Order.{order_agrees}
use Rattle.hprof_engine.specs.declared.tool_fault.ToolFault.{ToolFault}
use Rattle.hprof_engine.specs.declared.tool_fault.ToolFault.TheVariants as tool
use Rattle.hprof_engine.specs.Summaries.{AreSummaries, AreSummarised, HoldsFirst}
use Rattle.hprof_engine.specs.Joining.{Tell, Agree, Disagree, IsPartFault, IsOfPart, IsAccepted, RefusesPart, AreGiven}
use Rattle.hprof_engine.specs.Joining.{RefusesReader, AreReadOut, fault_of, read_count, ReadsAll, is_resource_fault, IsHindered}
use Rattle.hprof_engine.specs.Joining.{IsOkOrConflict}
use Rattle.hprof_engine.specs.Joining.{IsOfReading, none_known}
use Rattle.hprof_engine.specs.Makes.{Reads}
use Rattle.hprof_engine.specs.Through.{TellsHeap}
use Rattle.hprof_engine.proofs.PartFaults.{of_part}
use Rattle.hprof_stream.proofs.Parts.{part_sound}
use Rattle.hprof_stream.proofs.Smaller.{smaller_sound}
use Rattle.hprof_engine.proofs.Stated.{all_told, given_state, given_sizes, given_sound, least_of, sizes_once, placed}

-- ---- lists

-- a function of a list that gives none was given none
map_none : {A B : Type 0} (f : A → B) (xs : List A) → map f xs ≡ [] → xs ≡ []
map_none f [] e = refl
map_none f (x ∷ xs) e = absurd cc

map_length : {A B : Type 0} (f : A → B) (xs : List A) → length (map f xs) ≡ length xs
map_length f [] = refl
map_length f (x ∷ xs) = ap suc (map_length f xs)

-- there are as many parts as readers
pub told_length : {R : Type 0} (left : R → Option (List ℕ)) (old : List R) (parts : List (List ℕ)) → Tell left old parts
    → length old ≡ length parts
told_length left old parts told = sym (map_length left old) ∙ ap length told ∙ map_length Some parts

of_none : {R : Type 0} (left : R → Option (List ℕ)) (limits : Limits) (old : List R) (given : List Given)
    → AreGiven limits (map left old) given → given ≡ [] → old ≡ []
of_none left limits [] given are none = refl
of_none left limits (reader ∷ old) [] are none = absurd are
of_none left limits (reader ∷ old) (part ∷ given) are none = absurd cc

gives_none : {R : Type 0} (left : R → Option (List ℕ)) (limits : Limits) (old : List R) (given : List Given)
    → AreGiven limits (map left old) given → old ≡ [] → given ≡ []
gives_none left limits [] [] are none = refl
gives_none left limits [] (part ∷ given) are none = absurd are
gives_none left limits (reader ∷ old) given are none = absurd cc

-- what is told of nothing is that there is nothing
told_of_nothing : (answer : Result HeapValue Refusal) → Tells [] answer → answer ≡ Err refusals.NoParts
told_of_nothing (Ok heap) tells = absurd (no_least heap.millis tells.1)
told_of_nothing (Err refusals.NoParts) tells = refl
told_of_nothing (Err refusals.IdSizes) tells = absurd (tells Four tt)
told_of_nothing (Err (refusals.Conflict key)) tells = absurd (tells.1 refl)
told_of_nothing (Err refusals.Failed) tells = absurd tells

told_of_none : (given : List Given) → given ≡ [] → (answer : Result HeapValue Refusal) → Tells given answer → answer ≡ Err refusals.NoParts
told_of_none given none answer tells = told_of_nothing answer (subst (λ (g : List Given). Tells g answer) none tells)

-- ---- a part that is one of those that state something together

-- the part at a place among them
part_at : (states : List PartState) (before : List (List ℕ)) (bytes : List ℕ) (after : List (List ℕ)) → map (λ part. part.bytes) states
    ≡ before ++ bytes ∷ after → AllByRecursion StatesIt states
    → (ids : IdSize) × (millis : ℕ) × (facts : List FactValue) × IsPart bytes ids millis facts
part_at [] [] bytes after e each = absurd cc
part_at [] (first ∷ before) bytes after e each = absurd cc
part_at (part ∷ states) [] bytes after e each =
    let same : part.bytes ≡ bytes = cc in
    (part.ids, part.millis, part.facts, subst (λ (b : List ℕ). IsPart b part.ids part.millis part.facts) same each.0)
part_at (part ∷ states) (first ∷ before) bytes after e each =
    (let behind : map (λ (p : PartState). p.bytes) states ≡ before ++ bytes ∷ after = cc in part_at states before bytes after behind each.1)

-- a part is never malformed
never_malformed : (limits : Limits) (bytes : List ℕ) (ids : IdSize) (millis : ℕ) (facts : List FactValue) (at : ℕ) (reason : Reason)
    → limits.max_item ≤ longest_body → IsPart bytes ids millis facts
    → IsFirstFault limits.max_item bytes (faults.Malformed at reason) → ⊥
never_malformed limits bytes ids millis facts at reason le part first =
    elim (smaller_sound limits.max_item longest_body bytes le (part_sound bytes part.header part.records part.written)) [
      | inl sound ↦ no_fault_no_first limits.max_item bytes (faults.Malformed at reason) sound first
      | inr long ↦ let same : faults.Malformed at reason ≡ faults.ItemTooLong long.0 =
          first_fault_once limits.max_item bytes (faults.Malformed at reason) (faults.ItemTooLong long.0) first long.1 in cc
    ]

-- with what a part is not refused where its reader is well, no limit was met and memory was there
unexpected : {R : Type 0} (left : R → Option (List ℕ)) (health : R → Health) (pulls : R → ℕ) (TakesKnown : List FactValue → Type 0)
    (limits : Limits) (earlier : List Given) (bytes came : List ℕ) (was is : R) (ids : IdSize) (millis : ℕ) (facts : List FactValue)
    (fault : PartFault)
    → limits.max_item ≤ longest_body → IsPart bytes ids millis facts → IsOfPart limits bytes fault
    → IsPartFault left health pulls TakesKnown limits earlier was came is fault → health is ≡ healths.Well
    → (is_resource_fault fault ≡ true → ⊥) → ⊥
unexpected left health pulls TakesKnown limits earlier bytes came was is ids millis facts
    (faults.Malformed at reason) le part of_part why well
    unhindered = never_malformed limits bytes ids millis facts at reason le part of_part
unexpected left health pulls TakesKnown limits earlier bytes came was is ids millis facts (faults.ItemTooLong at) le part of_part why well
    unhindered = unhindered refl
unexpected left health pulls TakesKnown limits earlier bytes came was is ids millis facts faults.BytesExceeded le part of_part why well
    unhindered = unhindered refl
unexpected left health pulls TakesKnown limits earlier bytes came was is ids millis facts faults.Read le part of_part why well unhindered =
    let no : healths.Failed ≡ healths.Well = sym why.1 ∙ well in cc
unexpected left health pulls TakesKnown limits earlier bytes came was is ids millis facts faults.ReadsExceeded le part of_part why well
    unhindered = unhindered refl
unexpected left health pulls TakesKnown limits earlier bytes came was is ids millis facts faults.OutOfMemory le part of_part why well
    unhindered =
    unhindered refl
unexpected left health pulls TakesKnown limits earlier bytes came was is ids millis facts
    (faults.Sink sinks.OutOfMemory) le part of_part why well
    unhindered = unhindered refl
unexpected left health pulls TakesKnown limits earlier bytes came was is ids millis facts
    (faults.Sink sinks.Failed) le part of_part why well
    unhindered = why
unexpected left health pulls TakesKnown limits earlier bytes came was is ids millis facts faults.Failed le part of_part why well
    unhindered = why

-- parts of one size do not have two
pub not_two_sizes : (parts : List (List ℕ)) (ids : IdSize) (millis : ℕ) (facts : List FactValue) → IsState parts ids millis facts
    → HaveTwoSizes parts → ⊥
not_two_sizes parts ids millis facts state two =
    two.two ids (sizes_once ids state.states two.states (state.of_parts ∙ sym two.of_parts) state.each two.each state.one_size)

-- no numbers have a least one
no_states : (states : List PartState) (least : ℕ) → map (λ part. part.bytes) states ≡ []
    → IsLeastOf (map (λ part. part.millis) states) least → ⊥
no_states [] least e is = no_least least is
no_states (part ∷ states) least e is = absurd cc

-- ---- all parts were read

module _ {R : Type 0} (left : R → Option (List ℕ)) (limits : Limits) (old : List R) (given : List Given)
    (of_readers : AreGiven limits (map left (take (length old) old)) given) where
  -- what was given is what all readers told
  given_by_all : AreGiven limits (map left old) given
  given_by_all = subst (λ (rs : List R). AreGiven limits (map left rs) given) (take-length old) of_readers

  -- nothing was given only by no readers
  pub no_readers : given ≡ [] → old ≡ []
  no_readers none = of_none left limits old given given_by_all none

  -- no readers give nothing, and that is the answer
  pub no_parts : old ≡ [] → (answer : Result HeapValue Refusal) → Tells given answer → answer ≡ Err refusals.NoParts
  no_parts none answer tells = told_of_none given (gives_none left limits old given given_by_all none) answer tells

  module _ (parts : List (List ℕ)) (told : Tell left old parts) where
    pub given_by_parts : AreGiven limits (all_told parts) given
    given_by_parts = subst (λ (ls : List (Option (List ℕ))). AreGiven limits ls given) told given_by_all

    pub agree : (heap : HeapValue) → Tells given (Ok heap) → Agree parts heap.ids heap.millis heap.facts
    agree heap tells =
        let ordered = tells.4.ordered in
        record {
          state = given_state limits parts given heap.ids heap.millis heap.facts given_by_parts tells.0 tells.1 tells.3;
          consistent = order_agrees heap.facts ordered;
          ordered = ordered;
        }

    pub disagree : (key : Key) → Tells given (Err (refusals.Conflict key)) → Disagree parts key
    disagree key tells =
        let some : given ≡ [] → ⊥ = tells.1 in
        let least = least_of (map (λ part. part.header.millis) given) (λ e. some (map_none (λ part. part.header.millis) given e)) in
        record {
          ids = tells.0.0;
          millis = least.0;
          facts = all_given given;
          state = given_state limits parts given tells.0.0 least.0 (all_given given) given_by_parts tells.0.1 least.1 (λ fact.
              (λ h. h, λ h. h));
          least = tells.2;
        }

    pub all_accepted : AllByRecursion (IsAccepted limits) parts
    all_accepted = given_sound limits parts given given_by_parts

    pub two_sizes : Tells given (Err refusals.IdSizes) → HaveTwoSizes parts
    two_sizes tells = given_sizes limits parts given given_by_parts tells

-- ---- the summaries of all parts

-- the summaries of what readers told are those of the parts that they told
summaries_of_parts : (parts : List (List ℕ)) (summaries : List PartSummary) → AreSummarised (map Some parts) summaries
    → AreSummaries parts summaries
summaries_of_parts [] [] are = tt
summaries_of_parts [] (summary ∷ summaries) are = absurd are
summaries_of_parts (bytes ∷ parts) [] are = absurd are
summaries_of_parts (bytes ∷ parts) (summary ∷ summaries) are = (are.0, summaries_of_parts parts summaries are.1)

-- where all readers were read to their ends, the summaries that are held are those of their parts
pub summaries_held : {R S : Type 0} (left : R → Option (List ℕ)) (holds : S → List PartSummary → Type 0) (old : List R) (kept : S)
    → (first : HoldsFirst left holds old (length old) kept)
    → (parts : List (List ℕ)) → Tell left old parts → AreSummaries parts first.summaries
summaries_held {R} left holds old kept first parts told =
    let of_all = subst (λ (rs : List R). AreSummarised (map left rs) first.summaries) (take-length old) first.of_readers in
    let of_told = subst (λ (ls : List (Option (List ℕ))). AreSummarised ls first.summaries) told of_all in
    summaries_of_parts parts first.summaries of_told

-- ---- a part was refused

module _ {R : Type 0} (left : R → Option (List ℕ)) (health : R → Health) (pulls : R → ℕ) where
  pub refuses_part : (limits : Limits) (parts : List (List ℕ)) (old new : List R) (index : ℕ) (fault : PartFault) (from : Gathered)
      → Tell left old parts
      → RefusesReader left health pulls limits old new index fault from
      → RefusesPart left health pulls none_known limits parts old new index fault
  refuses_part limits parts old new index fault from told is =
      let place = placed left old parts index is.at.was told is.at.was_there in
      let stated = subst (λ (ls : List (Option (List ℕ))). AreGiven limits ls is.before.given) place.told_before is.before.of_readers in
      record {
        before = place.before;
        bytes = place.bytes;
        after = place.after;
        in_order = place.in_order;
        place = place.place;
        accepted = given_sound limits place.before is.before.given stated;
        given = is.before.given;
        stated = stated;
        at = is.at;
        told = place.told;
        of_part = of_part left health pulls none_known limits is.before.given is.at.was place.bytes is.at.came is.at.is fault place.told
            is.at.consumed is.at.refused;
      }

  -- a reader among those that are well is well
  well_at : (new : List R) (index : ℕ) (is : R) → All (λ reader. health reader ≡ healths.Well) new → slice_get new index ≡ Some is
      → health is ≡ healths.Well
  well_at new index is well there =
      subst (λ (r : R). health r ≡ healths.Well) (get_or_from_slice_get new index is is there)
      (well index is (slice_get_within new index is there))

  -- a part is refused only by a failed reader, by a limit, or for want of memory
  pub never_refused : (TakesKnown : List FactValue → Type 0) (limits : Limits) (parts : List (List ℕ)) (ids : IdSize) (millis : ℕ)
      (facts : List FactValue) (old new : List R) (index : ℕ) (fault : PartFault) → limits.max_item ≤ longest_body
      → IsState parts ids millis facts → RefusesPart left health pulls TakesKnown limits parts old new index fault
      → All (λ reader. health reader ≡ healths.Well) new → (is_resource_fault fault ≡ true → ⊥) → ⊥
  never_refused TakesKnown limits parts ids millis facts old new index fault le state is well unhindered =
      let part = part_at state.states is.before is.bytes is.after (state.of_parts ∙ is.in_order) state.each in
      unexpected left health pulls TakesKnown limits is.given is.bytes is.at.came is.at.was is.at.is part.0 part.1 part.2 fault le part.3
      is.of_part is.at.refused
      (well_at new index is.at.is well is.at.is_there) unhindered

  -- there are some readers
  some_reader : (old : List R) (index : ℕ) (was : R) → slice_get old index ≡ Some was → old ≡ [] → ⊥
  some_reader [] index was there none = absurd cc
  some_reader (reader ∷ old) index was there none = cc

  -- what reading answers where it ended with a fault
  pub stopped : (limits : Limits) (old new : List R) (fault : ToolFault) (from to : Gathered)
      → ReadsAll left health pulls limits old from (Err fault) new to → IsOfReading (Some fault)
      × Reads left health pulls none_known limits old new (Some fault)
      × (limits.max_item ≤ longest_body → (parts : List (List ℕ)) (ids : IdSize) (millis : ℕ) (facts : List FactValue) → Tell left old parts
      → IsState parts ids millis facts → All (λ reader. health reader ≡ healths.Well) new → (IsHindered (Some fault) → ⊥)
      → IsOkOrConflict (Some fault))
  stopped limits old new (tool.Part index fault) from to reads = (
    tt,
    record {
      no_parts = (λ e. absurd cc, λ none. absurd (some_reader old index reads.at.was reads.at.was_there none));
      id_sizes = λ e. absurd cc;
      conflict = λ key e. absurd cc;
      part = λ other why e parts told.
          let one : tool.Part index fault ≡ tool.Part other why = cc in
          refuses_part limits parts old new other why from told
          (subst (λ (f : ToolFault). ReadsAll left health pulls limits old from (Err f) new to) one reads);
      accepted = λ all. absurd all;
      read_out = reads.out;
    },
    λ le parts ids millis facts told state well unhindered. absurd (never_refused none_known limits parts ids millis facts old new index
        fault le state
        (refuses_part limits parts old new index fault from told reads) well unhindered),
  )
  stopped limits old new tool.NoParts from to reads = absurd reads
  stopped limits old new tool.IdSizes from to reads = absurd reads
  stopped limits old new (tool.Conflict key) from to reads = absurd reads
  stopped limits old new (tool.Refused refusal) from to reads = absurd reads
  stopped limits old new (tool.Write fault) from to reads = absurd reads
  stopped limits old new (tool.Lost loss) from to reads = absurd reads
  stopped limits old new tool.OutOfMemory from to reads = absurd reads

-- parts that state something together are some
pub some_parts : {R : Type 0} (left : R → Option (List ℕ)) (old : List R) (parts : List (List ℕ)) (ids : IdSize) (millis : ℕ)
    (facts : List FactValue) → Tell left old parts → IsState parts ids millis facts → old ≡ [] → ⊥
some_parts left [] [] ids millis facts told state none = no_states state.states millis state.of_parts state.earliest
some_parts left [] (bytes ∷ parts) ids millis facts told state none = absurd cc
some_parts left (reader ∷ old) parts ids millis facts told state none = absurd cc

-- parts that were gathered from nothing
pub from_nothing : (from to : Gathered) (given : List Given) → from ≡ nothing_gathered → Gathers from given to
    → Gathers nothing_gathered given to
from_nothing from to given e gathers = subst (λ (g : Gathered). Gathers g given to) e gathers

-- ---- all parts were read, and the gatherer answered

--   given: what these gave
module _ {R : Type 0} (left : R → Option (List ℕ)) (health : R → Health) (pulls : R → ℕ) (limits : Limits) (old new : List R)
    (given : List Given) (of_readers : AreGiven limits (map left (take (length old) old)) given)
    (out : AreReadOut left health pulls limits old new (length old)) where
  -- what reading answers where all parts were read
  reads_as : (ended : Option ToolFault) → ((ended ≡ Some tool.NoParts) ↔ (old ≡ []))
      → (ended ≡ Some tool.IdSizes → (parts : List (List ℕ)) → Tell left old parts → HaveTwoSizes parts)
      → ((key : Key) → ended ≡ Some (tool.Conflict key) → (parts : List (List ℕ)) → Tell left old parts → Disagree parts key)
      → ((index : ℕ) (fault : PartFault) → ended ≡ Some (tool.Part index fault) → ⊥) → read_count ended (length old) ≡ length old
      → Reads left health pulls none_known limits old new ended
  reads_as ended none sizes conflicts part all = record {
    no_parts = none;
    id_sizes = sizes;
    conflict = conflicts;
    part = λ index fault e parts told. absurd (part index fault e);
    accepted = λ _ parts told. all_accepted left limits old given of_readers parts told;
    read_out = subst (λ (count : ℕ). AreReadOut left health pulls limits old new count) (sym all) out;
  }

  module _ {F : Type 0} (heap_in : F → HeapValue) where
    pub answered : (answer : Result F ToolFault) → TellsHeap heap_in given answer
        → Reads left health pulls none_known limits old new (fault_of answer)
        × ((parts : List (List ℕ)) (ids : IdSize) (millis : ℕ) (facts : List FactValue) → Tell left old parts
        → IsState parts ids millis facts → IsOkOrConflict (fault_of answer))
    answered (Ok found) tells = (
      reads_as None (
        λ e. absurd cc,
        λ none. absurd (let no : ◌≡◌ {A = Result HeapValue Refusal} (Ok (heap_in found)) (Err refusals.NoParts) =
            no_parts left limits old given of_readers none (Ok (heap_in found)) tells in cc),
      ) (λ e. absurd cc) (λ key e. absurd cc)
          (λ index fault e. cc) refl,
      λ parts ids millis facts told state. tt,
    )
    answered (Err tool.NoParts) tells =
        let none = no_readers left limits old given of_readers tells in (
          reads_as (Some tool.NoParts) (λ e. none, λ e. refl) (λ e. absurd cc) (λ key e. absurd cc) (λ index fault e. cc) refl,
          λ parts ids millis facts told state. absurd (some_parts left old parts ids millis facts told state none),
        )
    answered (Err tool.IdSizes) tells = (
      reads_as (Some tool.IdSizes) (
        λ e. absurd cc,
        λ none. absurd (let no : ◌≡◌ {A = Result HeapValue Refusal} (Err refusals.IdSizes)
            (Err refusals.NoParts) = no_parts left limits old given of_readers none (Err refusals.IdSizes) tells in cc),
      )
          (λ e parts told. two_sizes left limits old given of_readers parts told tells) (λ key e. absurd cc)
          (λ index fault e. cc) refl,
      λ parts ids millis facts told state. absurd (not_two_sizes parts ids millis facts state
          (two_sizes left limits old given of_readers parts told tells)),
    )
    answered (Err (tool.Conflict key)) tells = (
      reads_as (Some (tool.Conflict key)) (
        λ e. absurd cc,
        λ none. absurd (let no : ◌≡◌ {A = Result HeapValue Refusal}
            (Err (refusals.Conflict key)) (Err refusals.NoParts) =
            no_parts left limits old given of_readers none (Err (refusals.Conflict key)) tells in cc),
      ) (λ e. absurd cc)
          (λ named e parts told. let one : key ≡ named = cc in subst (Disagree parts) one
          (disagree left limits old given of_readers parts told key tells)) (λ index fault e. cc) refl,
      λ parts ids millis facts told state. tt,
    )
    answered (Err (tool.Part index fault)) tells = absurd tells
    answered (Err (tool.Refused refusal)) tells = absurd tells
    answered (Err (tool.Write fault)) tells = absurd tells
    answered (Err (tool.Lost loss)) tells = absurd tells
    answered (Err tool.OutOfMemory) tells = absurd tells

--   given: what these gave
module _ {F : Type 0} (given : List Given) (heap_in : F → HeapValue) where
  -- it answers what reading alone answers, and all readers were read
  pub reads_alone : (answer : Result F ToolFault) → TellsHeap heap_in given answer → IsOfReading (fault_of answer)
      × ((all : ℕ) → read_count (fault_of answer) all ≡ all)
  reads_alone (Ok found) tells = (tt, λ all. refl)
  reads_alone (Err tool.NoParts) tells = (tt, λ all. refl)
  reads_alone (Err tool.IdSizes) tells = (tt, λ all. refl)
  reads_alone (Err (tool.Conflict key)) tells = (tt, λ all. refl)
  reads_alone (Err (tool.Part index fault)) tells = absurd tells
  reads_alone (Err (tool.Refused refusal)) tells = absurd tells
  reads_alone (Err (tool.Write fault)) tells = absurd tells
  reads_alone (Err (tool.Lost loss)) tells = absurd tells
  reads_alone (Err tool.OutOfMemory) tells = absurd tells

  module _ {R : Type 0} (left : R → Option (List ℕ)) (limits : Limits) (old : List R)
      (of_readers : AreGiven limits (map left (take (length old) old)) given) where
    -- what was found is of what the parts state
    pub found_agree : (answer : Result F ToolFault) → TellsHeap heap_in given answer → IfOk answer (λ found. (parts : List (List ℕ))
        → Tell left old parts → let heap = heap_in found in Agree parts heap.ids heap.millis heap.facts)
    found_agree (Ok found) tells = λ parts told. agree left limits old given of_readers parts told (heap_in found) tells
    found_agree (Err fault) tells = tt
