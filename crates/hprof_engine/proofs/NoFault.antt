-- Where no part has a fault, the answer is that of a join.
use Rattle.std.proofs.Common.{◌≡◌, ℕ, zero, suc, ◌<◌, true, false, List, [], ◌∷◌, ◌++◌, length, map, take, Option, Some, None, Result, Ok}
use Rattle.std.proofs.Common.{Err, refl}
use Rattle.std.proofs.Common.{sym, ap, subst, ◌∙◌, arith}
use Rattle.std.specs.Prelude.{slice_get, All, IsSome}
use Rattle.std.specs.List.{AllByRecursion}
use Rattle.std.proofs.Math.Seq.{take-length}
use Rattle.std.proofs.lemmas.List.{take_at}
use Rattle.std.proofs.lemmas.Option.{get_or_from_slice_get, slice_get_within}
use Rattle.hprof_devices.specs.declared.health.Health.{Health}
use Rattle.hprof_devices.specs.declared.health.Health.TheVariants as healths
use Rattle.hprof_values.specs.declared.ids.IdSize.{IdSize}
use Rattle.hprof_items.specs.FactValue.{FactValue}
use Rattle.hprof_stream.specs.declared.limits.Limits.{Limits}
use Rattle.hprof_stream.specs.declared.part_fault.PartFault.{PartFault}
use Rattle.hprof_stream.specs.declared.part_fault.PartFault.TheVariants as faults
use Rattle.hprof_stream.specs.declared.sink.SinkFault.TheVariants as sinks
use Rattle.hprof_stream.specs.declared.summary.PartSummary.{PartSummary}
use Rattle.hprof_stream.proofs.Faults.{no_fault_no_first}
use Rattle.hprof_rows.specs.HeapValue.{HeapValue}
use Rattle.hprof_dump.specs.Dump.{canonical_dump}
use Rattle.hprof_heap.specs.declared.standing.Refusal.{Refusal}
use Rattle.hprof_heap.specs.declared.standing.Refusal.TheVariants as refusals
use Rattle.hprof_heap.specs.State.{IsState}
use Rattle.hprof_heap.specs.Gathering.{Gathered, Given, Tells}
use Rattle.hprof_engine.specs.declared.tool_fault.ToolFault.{ToolFault}
use Rattle.hprof_engine.specs.declared.tool_fault.ToolFault.TheVariants as tool
use Rattle.hprof_engine.specs.declared.product.ProductFault.{ProductFault}
use Rattle.hprof_engine.specs.declared.product.ProductFault.TheVariants as stops
use Rattle.hprof_engine.specs.Joining.{Tell, Agree, IsAccepted, AreGiven, AreReadOut, RefusesPart, fault_of, is_resource_fault, IsOfReading}
use Rattle.hprof_engine.specs.Joining.{IsHindered, IsOkOrConflict}
use Rattle.hprof_engine.specs.Joining.{none_known}
use Rattle.hprof_engine.specs.Makes.{Reads, Makes, dump_making, IsDumpText, EndsWriting}
use Rattle.hprof_engine.specs.Summaries.{AreSummaries}
use Rattle.hprof_engine.proofs.Answers.{agree, answered}
use Rattle.hprof_engine.proofs.Making.{refused, fault_of_end, ended}
use Rattle.hprof_engine.proofs.OneSummary.{some_summary_each}
use Rattle.hprof_engine.proofs.PartFaults.{of_part}
use Rattle.hprof_engine.proofs.Stated.{placed}
use Rattle.hprof_engine.specs.declared.salvaged.FaultedPart.{FaultedPart}
use Rattle.hprof_engine.specs.declared.salvaged.Salvaged.{Salvaged}
use Rattle.hprof_engine.specs.Saved.{AreSaved}
use Rattle.hprof_engine.specs.Salvaging.{PartRead, is_want_of_memory, IsOfWhole, faults_from, EndsPart, IsReadSo, AreReadSo}
use Rattle.hprof_engine.specs.Salvaging.{ReadsThrough, WantsAt, RefusesAll, Salvages}
use Rattle.hprof_heap.specs.Heap.{heap_of}
use Rattle.hprof_engine.specs.Through.{GathersSaved, ReadsParts, TellsHeap}
use Rattle.hprof_engine.specs.Sound.{HaveNoFault, AnswersAsJoin}
use Rattle.hprof_engine.proofs.AsJoined.{sound_front, sound_reads, as_joined}
use Rattle.hprof_engine.proofs.WholeParts.{sound_given}

-- ---- no fault was found

-- none of the parts was read with a fault
abbrev AreSound : List PartRead → Type 0
AreSound reads = AllByRecursion (λ read. read.fault ≡ None) reads

-- a part at a place among them was not
sound_at : (reads : List PartRead) (k : ℕ) (read : PartRead) → slice_get reads k ≡ Some read → AreSound reads → read.fault ≡ None
sound_at [] k read there sound = absurd cc
sound_at (first ∷ reads) zero read there sound = let same : first ≡ read = cc in subst (λ (r : PartRead). r.fault ≡ None) same sound.0
sound_at (first ∷ reads) (suc k) read there sound = sound_at reads k read there sound.1

-- nor was the last
sound_last : (before : List PartRead) (last : PartRead) → AreSound (before ++ last ∷ []) → last.fault ≡ None
sound_last [] last sound = sound.0
sound_last (read ∷ before) last sound = sound_last before last sound.1

-- so no fault is listed
lists_none : (index : ℕ) (reads : List PartRead) → AreSound reads → faults_from index reads ≡ []
lists_none index [] sound = refl
lists_none index (read ∷ reads) sound = rw (sound.0, lists_none (suc index) reads sound.1)

-- the readers tell one list of parts
told_once : (parts others : List (List ℕ)) → map Some parts ≡ map Some others → parts ≡ others
told_once [] [] same = refl
told_once [] (bytes ∷ others) same = absurd cc
told_once (bytes ∷ parts) [] same = absurd cc
told_once (bytes ∷ parts) (other ∷ others) same =
    let first : bytes ≡ other = cc in
    let behind : map Some parts ≡ map Some others = cc in
    ap (λ (b : List ℕ). b ∷ parts) first ∙ ap (λ (ps : List (List ℕ)). other ∷ ps) (told_once parts others behind)

-- want of memory hinders
hinders : (fault : PartFault) → is_want_of_memory fault ≡ true → is_resource_fault fault ≡ true
hinders faults.OutOfMemory memory = refl
hinders (faults.Sink sinks.OutOfMemory) memory = refl
hinders (faults.Sink sinks.Failed) memory = absurd cc
hinders (faults.Malformed at reason) memory = absurd cc
hinders (faults.ItemTooLong at) memory = absurd cc
hinders faults.Failed memory = absurd cc
hinders faults.Read memory = absurd cc
hinders faults.ReadsExceeded memory = absurd cc
hinders faults.BytesExceeded memory = absurd cc

-- there are some readers
some_reader : {R : Type 0} (old : List R) (index : ℕ) (was : R) → slice_get old index ≡ Some was → old ≡ [] → ⊥
some_reader [] index was there none = absurd cc
some_reader (reader ∷ old) index was there none = cc

-- ---- the fault that a refusal of the gatherer is

abbrev as_fault : Result HeapValue Refusal → Result HeapValue ToolFault
as_fault (Ok heap) = Ok heap
as_fault (Err refusals.NoParts) = Err tool.NoParts
as_fault (Err refusals.IdSizes) = Err tool.IdSizes
as_fault (Err (refusals.Conflict key)) = Err (tool.Conflict key)
as_fault (Err refusals.Failed) = Err tool.OutOfMemory

tells_fault : (given : List Given) (answer : Result HeapValue Refusal) → Tells given answer
    → TellsHeap (λ heap. heap) given (as_fault answer)
tells_fault given (Ok heap) tells = tells
tells_fault given (Err refusals.NoParts) tells = tells
tells_fault given (Err refusals.IdSizes) tells = tells
tells_fault given (Err (refusals.Conflict key)) tells = tells
tells_fault given (Err refusals.Failed) tells = tells

module _ {R : Type 0} (left : R → Option (List ℕ)) (health : R → Health) (pulls : R → ℕ) (limits : Limits) (old new : List R)
    {W : Type 0} (written : W → Option (List ℕ)) (well : W → Health) (target : W) (gathered : Gathered) (parts : ℕ)
    (listed : List FaultedPart) where
  -- what is answered where reading wanted memory
  pub reading_ended : (fault : ToolFault) → ReadsParts left health pulls limits old new gathered parts listed (Err fault)
      → Salvages left health pulls limits old new written well target target (Err fault)
  reading_ended (tool.Part index fault) wants = (wants, refl)
  reading_ended tool.OutOfMemory wants = (wants, refl)
  reading_ended tool.NoParts wants = absurd wants
  reading_ended tool.IdSizes wants = absurd wants
  reading_ended (tool.Conflict key) wants = absurd wants
  reading_ended (tool.Refused refusal) wants = absurd wants
  reading_ended (tool.Write fault) wants = absurd wants
  reading_ended (tool.Lost loss) wants = absurd wants

  -- and where what was saved comes to no heap
  module _ (so : GathersSaved left health pulls limits old new (length old) gathered parts listed) where
    refusal_told : (refusal : Refusal) → Tells so.given (Err refusal) → RefusesAll left health pulls limits old new written well target
        target refusal
    refusal_told refusal tells = record {
      reads = so.reads;
      through = record { each = so.each; all = so.all; saves = record { given = so.given; saved = so.saved; tells = tells } };
      unwritten = refl;
    }

    pub no_heap : (fault : ToolFault) → TellsHeap heap_of so.given (Err fault)
        → Salvages left health pulls limits old new written well target target (Err fault)
    no_heap tool.NoParts tells = refusal_told refusals.NoParts tells
    no_heap tool.IdSizes tells = refusal_told refusals.IdSizes tells
    no_heap (tool.Conflict key) tells = refusal_told (refusals.Conflict key) tells
    no_heap (tool.Part index fault) tells = absurd tells
    no_heap tool.OutOfMemory tells = absurd tells
    no_heap (tool.Refused refusal) tells = absurd tells
    no_heap (tool.Write fault) tells = absurd tells
    no_heap (tool.Lost loss) tells = absurd tells

module _ {R : Type 0} (left : R → Option (List ℕ)) (health : R → Health) (pulls : R → ℕ) (limits : Limits) where
  -- a part that is accepted was read with no fault by a reader that is well, where it has few bytes
  none_found : (bytes came : List ℕ) (was is : R) (fault : Option PartFault) → IsAccepted limits bytes → length bytes < limits.max_reads
      → health is ≡ healths.Well → EndsPart left health pulls limits was came is fault → IsOfWhole limits bytes came fault → fault ≡ None
  none_found bytes came was is None accepted few well ends whole = refl
  none_found bytes came was is (Some (faults.Malformed at reason)) accepted few well ends whole =
      absurd (no_fault_no_first limits.max_item bytes (faults.Malformed at reason) accepted.0 whole)
  none_found bytes came was is (Some (faults.ItemTooLong at)) accepted few well ends whole =
      absurd (no_fault_no_first limits.max_item bytes (faults.ItemTooLong at) accepted.0 whole)
  none_found bytes came was is (Some faults.OutOfMemory) accepted few well ends whole = absurd (let no : true ≡ false = ends.1 in cc)
  none_found bytes came was is (Some (faults.Sink fault)) accepted few well ends whole = absurd ends
  none_found bytes came was is (Some faults.Failed) accepted few well ends whole = absurd ends.0
  none_found bytes came was is (Some faults.Read) accepted few well ends whole =
      absurd (let no : healths.Failed ≡ healths.Well = sym ends.0.1 ∙ well in cc)
  none_found bytes came was is (Some faults.ReadsExceeded) accepted few well ends whole = absurd (omega (arith, few, whole))
  none_found bytes came was is (Some faults.BytesExceeded) accepted few well ends whole = absurd (omega (arith, accepted.1, whole))

  -- so were all
  none_found_all : (old new : List R) (reads : List PartRead) (parts : List (List ℕ)) → AreReadSo left health pulls limits old new reads
      → Tell left old parts → AllByRecursion (IsAccepted limits) parts → AllByRecursion (λ bytes. length bytes < limits.max_reads) parts
      → ((k : ℕ) (is : R) → slice_get new k ≡ Some is → health is ≡ healths.Well) → AreSound reads
  none_found_all old new [] parts are told accepted few well = tt
  none_found_all [] new (read ∷ reads) parts are told accepted few well =
      let one = are 0 (omega arith) in absurd (let no : None ≡ Some one.0 = one.3 in cc)
  none_found_all (reader ∷ old) new (read ∷ reads) [] are told accepted few well = absurd cc
  none_found_all (reader ∷ old) [] (read ∷ reads) (bytes ∷ parts) are told accepted few well =
      let one = are 0 (omega arith) in absurd (let no : None ≡ Some one.1 = one.4 in cc)
  none_found_all (reader ∷ old) (next ∷ new) (read ∷ reads) (bytes ∷ parts) are told accepted few well =
      let one = are 0 (omega arith) in
      let is_was : reader ≡ one.0 = cc (one.3) in
      let is_read : read ≡ one.2 = cc (one.5) in
      let first : left reader ≡ Some bytes = cc in
      let behind : map left old ≡ map Some parts = cc in
      let so = subst (λ (r : PartRead). IsReadSo left health pulls limits one.0 one.1 r) (sym is_read) one.6 in (
        none_found bytes read.came one.0 one.1 read.fault accepted.0 few.0 (well 0 one.1 one.4) so.ends
            (so.whole bytes (ap left (sym is_was) ∙ first)),
        none_found_all old new reads parts (λ k below. are (suc k) (omega (arith, below))) behind accepted.1 few.1 (λ k is there.
            well (suc k) is there),
      )

  -- each reader was read to its end
  read_out : (old new : List R) (reads : List PartRead) → AreReadSo left health pulls limits old new reads → AreSound reads
      → AreReadOut left health pulls limits old new (length reads)
  read_out old new reads are sound k below =
      let one = are k below in
      let ends = subst (λ (f : Option PartFault). EndsPart left health pulls limits one.0 one.2.came one.1 f)
      (sound_at reads k one.2 one.5 sound) one.6.ends in (
        one.0,
        one.1,
        one.3,
        one.4,
        record {
          came = one.2.came;
          consumed = one.6.consumed;
          pulled = ends.0;
          at_end = ends.1;
          accepted = ends.3;
          well = ends.2;
          spared = one.6.spared;
        },
      )

  module _ (old new : List R) where
    none_of : (parts : List (List ℕ)) (reads : List PartRead) → HaveNoFault left health limits old new parts
        → AreReadSo left health pulls limits old new reads → AreSound reads
    none_of parts reads have are = none_found_all old new reads parts are have.told have.accepted have.few (λ k is there.
        subst (λ (r : R). health r ≡ healths.Well) (get_or_from_slice_get new k is is there)
        (have.well k is (slice_get_within new k is there)))

    -- ---- memory was wanted for a part

    module _ (index : ℕ) (fault : PartFault) (wants : WantsAt left health pulls limits old new index fault)
        (sound : AreSound wants.reads) where
      wants_part : (parts : List (List ℕ)) → Tell left old parts → RefusesPart left health pulls none_known limits parts old new index fault
      wants_part parts told =
          let place = placed left old parts index wants.at.was told wants.at.was_there in
          let front = sound_front left health pulls limits old new wants.reads parts wants.each sound told in
          let same : take (length wants.reads) parts ≡ place.before = ap (λ (n : ℕ). take n parts) wants.place
          ∙ ap (take index) place.in_order ∙ take_at place.before (place.bytes ∷ place.after) index place.place in
          let accepted = subst (λ (ps : List (List ℕ)). AllByRecursion (IsAccepted limits) ps) same front.1 in
          let saved = subst (λ (ps : List (List ℕ)). AreSaved limits.max_item ps wants.given) (front.0 ∙ same) wants.saved in
          record {
            before = place.before;
            bytes = place.bytes;
            after = place.after;
            in_order = place.in_order;
            place = place.place;
            accepted = accepted;
            given = wants.given;
            stated = sound_given limits place.before wants.given accepted saved;
            at = wants.at;
            told = place.told;
            of_part = of_part left health pulls none_known limits wants.given wants.at.was place.bytes wants.at.came wants.at.is
                fault place.told
                wants.at.consumed wants.at.refused;
          }

      wants_reads : Reads left health pulls none_known limits old new (Some (tool.Part index fault))
      wants_reads = record {
        no_parts = (λ e. absurd cc, λ none. absurd (some_reader old index wants.at.was wants.at.was_there none));
        id_sizes = λ e. absurd cc;
        conflict = λ key e. absurd cc;
        part = λ other why e parts told.
            let one : index ≡ other = cc in
            let its : fault ≡ why = cc in
            subst (λ (i : ℕ). RefusesPart left health pulls none_known limits parts old new i why) one
            (subst (λ (f : PartFault). RefusesPart left health pulls none_known limits parts old new index f) its (wants_part parts told));
        accepted = λ all. absurd all;
        read_out = subst (λ (n : ℕ). AreReadOut left health pulls limits old new n) wants.place
            (read_out old new wants.reads wants.each sound);
      }

    -- ---- all parts were read

    module _ (parts : List (List ℕ)) (told : Tell left old parts) (reads : List PartRead) (answer : Result HeapValue Refusal)
        (through : ReadsThrough left health pulls limits old new reads answer) (sound : AreSound reads) where
      of_readers : AreGiven limits (map left (take (length old) old)) through.saves.given
      of_readers =
          let given = through.saves.given in
          let whole = sound_reads left health pulls limits old new reads parts through.each through.all sound told in
          let saved = subst (λ (ps : List (List ℕ)). AreSaved limits.max_item ps given) whole.0 through.saves.saved in
          subst (λ (rs : List R). AreGiven limits (map left rs) given) (sym (take-length old))
          (subst (λ (ls : List (Option (List ℕ))). AreGiven limits ls given) (sym told) (sound_given limits parts given whole.1 saved))

      out : AreReadOut left health pulls limits old new (length old)
      out = subst (λ (n : ℕ). AreReadOut left health pulls limits old new n) through.all (read_out old new reads through.each sound)

      all_read : Reads left health pulls none_known limits old new (fault_of (as_fault answer))
          × ((others : List (List ℕ)) (ids : IdSize) (millis : ℕ) (facts : List FactValue) → Tell left old others
          → IsState others ids millis facts → IsOkOrConflict (fault_of (as_fault answer)))
      all_read = answered left health pulls limits old new through.saves.given of_readers out (λ (heap : HeapValue). heap) (as_fault answer)
          (tells_fault through.saves.given answer through.saves.tells)

    module _ {W : Type 0} (written : W → Option (List ℕ)) (well : W → Health) (before after : W) (parts : List (List ℕ))
        (have : HaveNoFault left health limits old new parts) where
      -- what is answered before writing
      unwritten : (fault : ToolFault) → after ≡ before → IsOfReading (Some fault)
          → Reads left health pulls none_known limits old new (Some fault)
          → ((others : List (List ℕ)) (ids : IdSize) (millis : ℕ) (facts : List FactValue) → Tell left old others
          → IsState others ids millis facts → All (λ reader. health reader ≡ healths.Well) new → (IsHindered (Some fault) → ⊥)
          → IsOkOrConflict (Some fault))
          → Makes left health pulls written well limits dump_making old new before after (Some fault)
      unwritten fault same kind reads no_other =
          subst (λ (w : W). Makes left health pulls written well limits dump_making old new before w (Some fault)) (sym same)
          (refused left health pulls written well limits dump_making old new before fault kind reads no_other)

      refuses : (refusal : Refusal) (fault : ToolFault) → fault_of (as_fault (Err refusal)) ≡ Some fault → IsOfReading (Some fault)
          → RefusesAll left health pulls limits old new written well before after refusal
          → Makes left health pulls written well limits dump_making old new before after (Some fault)
      refuses refusal fault is kind all =
          let read = all_read parts have.told all.reads (Err refusal) all.through (none_of parts all.reads have all.through.each) in
          unwritten fault all.unwritten kind (subst (λ (f : Option ToolFault). Reads left health pulls none_known limits old new
          f) is read.0)
          (λ others ids millis facts told state are_well unhindered. subst IsOkOrConflict is (read.1 others ids millis facts told state))

      -- what is answered of a heap that is written
      module _ (reads : List PartRead) (heap : HeapValue) (through : ReadsThrough left health pulls limits old new reads (Ok heap)) where
        sound : AreSound reads
        sound = none_of parts reads have through.each

        agrees : (others : List (List ℕ)) → Tell left old others → Agree others heap.ids heap.millis heap.facts
        agrees others told = agree left limits old through.saves.given (of_readers parts have.told reads (Ok heap) through sound)
            others told
            heap through.saves.tells

        summarised : (summaries : List PartSummary) × ((others : List (List ℕ)) → Tell left old others → AreSummaries others summaries)
        summarised =
            let its = agrees parts have.told in
            let some = some_summary_each its.state.states its.state.each in (
              some.0,
              λ others told. subst (λ (ps : List (List ℕ)). AreSummaries ps some.0)
                  (its.state.of_parts ∙ told_once parts others (sym have.told ∙ told)) some.1,
            )

        writes : (end : Result (Unit {0}) ProductFault) → EndsWriting written well (IsDumpText summarised.0 heap)
            (λ refusal. ⊥) ⊥ before after end
            → Makes left health pulls written well limits dump_making old new before after (fault_of_end end)
        writes end ends = ended left health pulls limits old new written well IsDumpText (λ refusal other. ⊥)
            (λ count. ⊥) ⊥ before after heap
            summarised.0 agrees summarised.1 (all_read parts have.told reads (Ok heap) through sound).0 end ends

      -- where no part has a fault, the answer is that of a join
      pub as_join : (result : Result Salvaged ToolFault)
          → Salvages left health pulls limits old new written well before after result
          → AnswersAsJoin left health pulls limits old new written well before after result
      as_join (Ok salvaged) saves =
          let none = saves.listed ∙ lists_none 0 saves.reads (none_of parts saves.reads have saves.through.each) in
          let dump = canonical_dump saves.heap.ids saves.heap.millis saves.heap.facts in
          record {
            makes = writes saves.reads saves.heap saves.through (Ok tt) (saves.is_well, (dump, refl, saves.wrote));
            joined = λ others told. (as_joined left health pulls limits old new written well before after salvaged saves none
                others told).0;
            unlisted = none;
          }
      as_join (Err tool.NoParts) all = record { makes = refuses refusals.NoParts tool.NoParts refl tt all; joined = tt; unlisted = tt }
      as_join (Err tool.IdSizes) all = record { makes = refuses refusals.IdSizes tool.IdSizes refl tt all; joined = tt; unlisted = tt }
      as_join (Err (tool.Conflict key)) all = record {
        makes = refuses (refusals.Conflict key) (tool.Conflict key) refl tt all;
        joined = tt;
        unlisted = tt;
      }
      as_join (Err (tool.Write fault)) stop =
          let dump = canonical_dump stop.heap.ids stop.heap.millis stop.heap.facts in
          record {
            makes = writes stop.reads stop.heap stop.through (Err (stops.Write fault)) (stop.ill, (dump, stop.count, refl, stop.wrote));
            joined = tt;
            unlisted = tt;
          }
      as_join (Err (tool.Part index fault)) wants =
          let reads = wants_reads index fault wants.0 (none_of parts wants.0.reads have wants.0.each) in
          record {
            makes = unwritten (tool.Part index fault) wants.1 tt reads (λ others ids millis facts told state are_well unhindered.
                absurd (unhindered (hinders fault wants.0.memory)));
            joined = tt;
            unlisted = tt;
          }
      as_join (Err tool.OutOfMemory) wants =
          let its = wants.0 in
          let none = sound_last its.before its.last (none_of parts (its.before ++ its.last ∷ []) have its.each) in
          absurd (let no : IsSome {T = PartFault} None = subst IsSome none its.faulty in cc)
      as_join (Err (tool.Refused refusal)) none = absurd none
      as_join (Err (tool.Lost loss)) none = absurd none
