-- Where no fault is listed, what was saved is what is joined.
use Rattle.std.proofs.Common.{◌≡◌, ℕ, suc, List, [], ◌∷◌, length, map, take, Option, Some, None, Ok, refl, sym, ap, subst, ◌∙◌, arith}
use Rattle.std.specs.List.{AllByRecursion}
use Rattle.std.proofs.Math.Seq.{take-length}
use Rattle.hprof_devices.specs.declared.health.Health.{Health}
use Rattle.hprof_stream.specs.declared.limits.Limits.{Limits}
use Rattle.hprof_stream.specs.declared.part_fault.PartFault.{PartFault}
use Rattle.hprof_dump.specs.Dump.{canonical_dump}
use Rattle.hprof_heap.specs.Gathering.{Given}
use Rattle.hprof_engine.specs.Joining.{Tell, Agree, IsAccepted, AreGiven, AreJoined}
use Rattle.hprof_engine.specs.Makes.{IsDump, WritesAll}
use Rattle.hprof_engine.specs.Summaries.{AreSummaries}
use Rattle.hprof_engine.proofs.Answers.{told_length}
use Rattle.hprof_engine.proofs.OneSummary.{some_summary_each}
use Rattle.hprof_engine.specs.declared.salvaged.FaultedPart.{FaultedPart}
use Rattle.hprof_engine.specs.declared.salvaged.Salvaged.{Salvaged}
use Rattle.hprof_engine.specs.Saved.{SavesTo}
use Rattle.hprof_engine.specs.Salvaging.{PartRead, handled, all_handled, IsOfWhole, fault_with, faults_from, EndsPart, IsReadSo, AreReadSo}
use Rattle.hprof_engine.specs.Salvaging.{SavesAll}
use Rattle.hprof_engine.proofs.SavedParts.{handled_all}
use Rattle.hprof_engine.proofs.WholeParts.{sound_joins, sound_given}

-- where none is listed, none has a fault
none_with : (index : ℕ) (fault : Option PartFault) (others : List FaultedPart) → fault_with index fault others ≡ [] → (fault ≡ None)
    × (others ≡ [])
none_with index None others none = (refl, none)
none_with index (Some fault) others none = absurd cc

none_listed : (index : ℕ) (reads : List PartRead) → faults_from index reads ≡ [] → AllByRecursion (λ read. read.fault ≡ None) reads
none_listed index [] none = tt
none_listed index (read ∷ reads) none =
    let first = none_with index read.fault (faults_from (suc index) reads) none in
    (first.0, none_listed (suc index) reads first.1)

-- as many parts as were given
given_length : (limits : Limits) (parts : List (List ℕ)) (given : List Given) → AreGiven limits (map Some parts) given
    → length given ≡ length parts
given_length limits [] [] are = refl
given_length limits [] (part ∷ given) are = absurd are
given_length limits (bytes ∷ parts) [] are = absurd are
given_length limits (bytes ∷ parts) (part ∷ given) are = ap suc (given_length limits parts given are.1)

module _ {R : Type 0} (left : R → Option (List ℕ)) (health : R → Health) (pulls : R → ℕ) (limits : Limits) where
  -- a part that was read with no fault, and told, was handled whole
  sound_read : (was is : R) (read : PartRead) (bytes : List ℕ) → IsReadSo left health pulls limits was is read → read.fault ≡ None
      → left was ≡ Some bytes → (handled limits read ≡ bytes) × IsAccepted limits bytes
  sound_read was is read bytes so sound told =
      let ends = subst (λ (f : Option PartFault). EndsPart left health pulls limits was read.came is f) sound so.ends in
      let whole : bytes ≡ read.came = subst (λ (f : Option PartFault). IsOfWhole limits bytes read.came f) sound (so.whole bytes told) in (
        handled_all limits read.came ends.3 ∙ sym whole,
        subst (λ (b : List ℕ). IsAccepted limits b) (sym whole) ends.3,
      )

  -- so were those at the front, as far as they were read
  pub sound_front : (old new : List R) (reads : List PartRead) (parts : List (List ℕ)) → AreReadSo left health pulls limits old new reads
      → AllByRecursion (λ read. read.fault ≡ None) reads → Tell left old parts
      → (all_handled limits reads ≡ take (length reads) parts) × AllByRecursion (IsAccepted limits) (take (length reads) parts)
  sound_front old new [] parts are sound told = (refl, tt)
  sound_front [] new (read ∷ reads) parts are sound told =
      let one = are 0 (omega arith) in absurd (let no : None ≡ Some one.0 = one.3 in cc)
  sound_front (reader ∷ old) new (read ∷ reads) [] are sound told = absurd cc
  sound_front (reader ∷ old) [] (read ∷ reads) (bytes ∷ parts) are sound told =
      let one = are 0 (omega arith) in absurd (let no : None ≡ Some one.1 = one.4 in cc)
  sound_front (reader ∷ old) (next ∷ new) (read ∷ reads) (bytes ∷ parts) are sound told =
      let one = are 0 (omega arith) in
      let is_was : reader ≡ one.0 = cc (one.3) in
      let is_read : read ≡ one.2 = cc (one.5) in
      let first : left reader ≡ Some bytes = cc in
      let behind : map left old ≡ map Some parts = cc in
      let so = subst (λ (r : PartRead). IsReadSo left health pulls limits one.0 one.1 r) (sym is_read) one.6 in
      let here = sound_read one.0 one.1 read bytes so sound.0 (ap left (sym is_was) ∙ first) in
      let rest = sound_front old new reads parts (λ k below. are (suc k) (omega (arith, below))) sound.1 behind in (
        ap (λ (b : List ℕ). b ∷ all_handled limits reads) here.0 ∙ ap (λ (bs : List (List ℕ)). bytes ∷ bs) rest.0,
        (here.1, rest.1),
      )

  -- and all, where all were read
  pub sound_reads : (old new : List R) (reads : List PartRead) (parts : List (List ℕ)) → AreReadSo left health pulls limits old new reads
      → length reads ≡ length old → AllByRecursion (λ read. read.fault ≡ None) reads → Tell left old parts
      → (all_handled limits reads ≡ parts) × AllByRecursion (IsAccepted limits) parts
  sound_reads old new reads parts are all sound told =
      let front = sound_front old new reads parts are sound told in
      let whole : take (length reads) parts ≡ parts = ap (λ (n : ℕ). take n parts) (all ∙ told_length left old parts told)
      ∙ take-length parts in
      (front.0 ∙ whole, subst (λ (ps : List (List ℕ)). AllByRecursion (IsAccepted limits) ps) whole front.1)

  module _ (old new : List R) {W : Type 0} (written : W → Option (List ℕ)) (well : W → Health) (before after : W)
      (salvaged : Salvaged) where
    -- where no fault is listed, the parts are joined: their dump was written, and counted
    pub as_joined : SavesAll left health pulls limits old new written well before after salvaged → salvaged.faults.items ≡ []
        → (parts : List (List ℕ)) → Tell left old parts
        → AreJoined parts salvaged.joined × WritesAll IsDump parts (written before) (written after)
    as_joined saves none parts told =
        let sound = none_listed 0 saves.reads (sym saves.listed ∙ none) in
        let whole = sound_reads old new saves.reads parts saves.through.each saves.through.all sound told in
        let heap = saves.heap in
        let them = subst (λ (ps : List (List ℕ)). SavesTo limits.max_item ps (Ok heap)) whole.0 saves.through.saves in
        let agree : Agree parts heap.ids heap.millis heap.facts = sound_joins limits parts (Ok heap) whole.1 them in
        let summaries = some_summary_each agree.state.states agree.state.each in
        let count = given_length limits (all_handled limits saves.reads) saves.through.saves.given (sound_given limits
        (all_handled limits saves.reads) saves.through.saves.given
        (subst (λ (ps : List (List ℕ)). AllByRecursion (IsAccepted limits) ps) (sym whole.0) whole.1) saves.through.saves.saved) in (
          record {
            ids = heap.ids;
            millis = heap.millis;
            rows = heap.facts;
            agree = agree;
            parts_count = saves.parts_count ∙ count ∙ ap length whole.0;
            facts_count = saves.facts_count;
          },
          (
            canonical_dump heap.ids heap.millis heap.facts,
            record {
              heap = heap;
              agree = agree;
              summaries = summaries.0;
              of_parts = subst (λ (ps : List (List ℕ)). AreSummaries ps summaries.0) agree.state.of_parts summaries.1;
              is = refl;
            },
            saves.wrote,
          ),
        )
