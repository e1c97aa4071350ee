-- Pulled and pushed, the same bytes come to the same result, and state the same facts.
use Rattle.std.proofs.Common.{◌≡◌, ℕ, ◌≤◌, Bool, true, false, List, [], ◌++◌, length, take, Option, Some, None, Result, Ok, Err, inl, inr}
use Rattle.std.proofs.Common.{refl, sym, ap, subst}
use Rattle.std.proofs.Common.{◌∙◌, append_assoc, append-nil}
use Rattle.std.proofs.lemmas.Bool.{both_ways, cases_Bool}
use Rattle.std.proofs.lemmas.List.{take_all}
use Rattle.std.proofs.KnownBytes.{Consumes-trans}
use Rattle.std.specs.Io.KnownBytes.{Consumes}
use Rattle.hprof_devices.specs.declared.health.Health.{Health}
use Rattle.hprof_values.specs.declared.ids.IdSize.{IdSize}
use Rattle.hprof_values.specs.declared.reason.Reason.TheVariants.{Truncated}
use Rattle.hprof_items.specs.declared.header.Header.{Header}
use Rattle.hprof_items.specs.FactValue.{FactValue}
use Rattle.hprof_stream.specs.declared.limits.Limits.{Limits}
use Rattle.hprof_stream.specs.declared.part_fault.PartFault.{PartFault}
use Rattle.hprof_stream.specs.declared.part_fault.PartFault.TheVariants as faults
use Rattle.hprof_stream.specs.declared.part_reader.PartReader.{PartReader}
use Rattle.hprof_stream.specs.declared.sink.SinkFault.{SinkFault}
use Rattle.hprof_stream.specs.declared.summary.PartSummary.{PartSummary}
use Rattle.hprof_stream.specs.Part.{IsPart, IsSummary}
use Rattle.hprof_stream.specs.Fault.{HasNoFault, IsFirstFault, StatesSoFar}
use Rattle.hprof_stream.specs.Reader.{Feeds, Finishes, HasRead, IsSettledFault, RanOver, ReadsPart, header_of}
use Rattle.hprof_stream.proofs.Faults.{states_once}
use Rattle.hprof_stream.proofs.FedRuns.{Pulled-consumes, StatesSoFar-read}
use Rattle.hprof_stream.proofs.Parts.{states_one}
use Rattle.hprof_facts.specs.FactReader.{Ends, EndsFrom, HasGivenFrom, Origin, comes_to_end, is_refused, reads_are_spent, source_fails}
use Rattle.hprof_facts.specs.Listing as listing
use Rattle.hprof_facts.specs.OfBytes.{IsOfBytes, IsResultOf, RunBefore, StatesBefore, is_of_bytes}
use Rattle.hprof_facts.specs.declared.fact_reader.FactReader.{FactReader}
use Rattle.hprof_facts.proofs.GivenFirst.{given_first, known_all, known_first, known_with, run_listed}
use Rattle.hprof_facts.proofs.Results.{first_result, never_both, part_states, result_once, settled_result, settled_states}

-- what the bytes state before a result is determined
pub states_before_once : (limits : Limits) (bytes : List ℕ) (one two : Result PartSummary PartFault) (facts others : List FactValue)
    → one ≡ two
    → StatesBefore limits bytes one facts → StatesBefore limits bytes two others → facts ≡ others
states_before_once limits bytes (Ok one) (Ok two) facts others same comes comes_too =
    (states_one bytes one.header.ids two.header.ids one.header.millis two.header.millis facts others comes comes_too).2
states_before_once limits bytes (Ok one) (Err two) facts others same comes comes_too = absurd cc
states_before_once limits bytes (Err one) (Ok two) facts others same comes comes_too = absurd cc
states_before_once limits bytes (Err one) (Err two) facts others same comes comes_too =
    (states_once limits.max_item (take limits.max_bytes bytes) comes.0 comes_too.0 facts others comes.1 comes_too.1).1

-- ---- pushed

module _ {R : Type 0} (left : R → Option (List ℕ)) (health : R → Health) (pulls : R → ℕ)
    {S : Type 0} (begins : S → Header → S → Type 0) (steps : S → FactValue → S → Type 0) (refuses : S → List FactValue → SinkFault → S
    → Type 0)
    (failed : S → Bool) where
  -- what is said of a result that the bytes decide
  pub record Pushed (limits : Limits) (bytes : List ℕ) (result : Result PartSummary PartFault) (old new : S) : Type 0 where
    pub is : IsResultOf limits bytes result
    pub facts : List FactValue
    pub states : StatesBefore limits bytes result facts
    pub ran : RunBefore begins steps result old facts new

  module _ (limits : Limits) (was : R) (came : List ℕ) (is : R) (old new : S) (bytes : List ℕ) (tells : left was ≡ Some bytes)
      (gave : Consumes (left was) (left is) came) where
    pushed_settled : (fault : PartFault) → IsSettledFault limits came fault
        → (header : Option Header) × RanOver begins steps limits.max_item (take limits.max_bytes came) [] None header old new
        → Pushed limits bytes (Err fault) old new
    pushed_settled fault settled ran =
        let known = known_first (left was) (left is) bytes came tells gave in
        let over = ran.1 in
        record {
          is = settled_result limits came known.0 bytes fault known.1 settled;
          facts = over.handed;
          states = (ran.0, settled_states limits came known.0 bytes fault ran.0 over.handed known.1 settled over.states);
          ran = (ran.0, over.ran);
        }

    pub pushed : (result : Result PartSummary PartFault) → ReadsPart left health pulls begins steps refuses failed limits was came is old
        result new
        → IsOfBytes result → Pushed limits bytes result old new
    pushed (Ok summary) reads of_bytes =
        let same = known_all (left was) (left is) bytes came tells gave reads.1 in
        let stated = reads.6 in
        record {
          is = subst (λ (b : List ℕ). IsResultOf limits b (Ok summary)) (sym same) (reads.3, reads.4, reads.5);
          facts = stated.0;
          states = subst (λ (b : List ℕ). StatesBefore limits b (Ok summary) stated.0) (sym same) stated.1;
          ran = stated.2;
        }
    pushed (Err faults.Read) reads of_bytes = absurd (both_ways _ refl of_bytes)
    pushed (Err faults.ReadsExceeded) reads of_bytes = absurd (both_ways _ refl of_bytes)
    pushed (Err (faults.Malformed at Truncated)) reads of_bytes =
        let why = reads.0 in
        let same = known_all (left was) (left is) bytes came tells gave why.1 in
        let over = reads.1.1 in
        let fault : PartFault = faults.Malformed at Truncated in
        let first = subst (λ (b : List ℕ). IsFirstFault limits.max_item b fault) (sym (take_all limits.max_bytes came why.3)) why.4 in
        record {
          is = subst (λ (b : List ℕ). IsResultOf limits b (Err fault)) (sym same) (first, λ unsettled. why.3);
          facts = over.handed;
          states = (
            reads.1.0,
            subst (λ (b : List ℕ). StatesSoFar limits.max_item (take limits.max_bytes b) reads.1.0 over.handed) (sym same) over.states,
          );
          ran = (reads.1.0, over.ran);
        }
    pushed (Err faults.OutOfMemory) reads of_bytes = absurd (both_ways _ refl of_bytes)
    pushed (Err (faults.Sink fault)) reads of_bytes = absurd (both_ways _ refl of_bytes)
    pushed (Err faults.Failed) reads of_bytes = absurd (both_ways _ refl of_bytes)
    pushed (Err fault) reads of_bytes = pushed_settled fault reads.0.2 reads.1

-- ---- pulled

-- the end of a part that was read whole
ended : (limits : Limits) (bytes : List ℕ) (facts : List FactValue) (part : PartReader) (result : Result PartSummary PartFault)
    → HasRead limits bytes facts part → Finishes limits bytes facts (header_of part) result
    → IsResultOf limits bytes result × StatesBefore limits bytes result facts
ended limits bytes facts part (Ok summary) read finishes = ((read.within, finishes.0, finishes.1), finishes.2)
ended limits bytes facts part (Err fault) read finishes =
    let all = sym (take_all limits.max_bytes bytes read.within) in (
      first_result limits bytes fault (subst (λ (b : List ℕ). IsFirstFault limits.max_item b fault) all finishes.0)
          (λ unsettled. read.within),
      (
        header_of part,
        subst (λ (b : List ℕ). StatesSoFar limits.max_item b (header_of part) facts) all (StatesSoFar-read limits bytes facts part read),
      ),
    )

-- a piece that was refused for its bytes
refuses : (limits : Limits) (bytes more whole : List ℕ) (told given all : List FactValue) (part next : PartReader) (piece : List ℕ)
    (fault : PartFault) → whole ≡ (bytes ++ piece) ++ more → is_of_bytes fault ≡ true
    → Feeds {S = List FactValue} listing.begins listing.steps listing.refuses listing.failed limits bytes (told ++ given) part piece given
    (Err fault) next all
    → IsResultOf limits whole (Err fault) × StatesBefore limits whole (Err fault) (told ++ all)
refuses limits bytes more whole told given all part next piece fault same of_bytes fed = by fault of_bytes fed
  where
    by : (f : PartFault) → is_of_bytes f ≡ true
        → Feeds {S = List FactValue} listing.begins listing.steps listing.refuses listing.failed limits bytes (told ++ given) part piece
        given
        (Err f) next all
        → IsResultOf limits whole (Err f) × StatesBefore limits whole (Err f) (told ++ all)
    by faults.OutOfMemory never lacks = absurd cc
    by (faults.Sink why) never refused = absurd cc
    by f of_bytes is_fault =
        let over = is_fault.1 in
        let facts : (told ++ given) ++ over.handed ≡ told ++ all =
        append_assoc told given over.handed
        ∙ ap (λ (l : List FactValue). told ++ l) (sym (run_listed given _ over.handed all over.ran)) in (
          settled_result limits (bytes ++ piece) more whole f same is_fault.0,
          (
            header_of next,
            subst (λ (l : List FactValue). StatesSoFar limits.max_item (take limits.max_bytes whole) (header_of next) l) facts
                (settled_states limits (bytes ++ piece) more whole f (header_of next) ((told ++ given) ++ over.handed) same is_fault.0
                over.states),
          ),
        )

module _ {R : Type 0} (left : R → Option (List ℕ)) (health : R → Health) (pulls : R → ℕ) (origin : Origin) (was : R) (rest : List ℕ)
    (tells : left was ≡ Some rest) where
  pub pulled : (is : R) (result : Result PartSummary PartFault) (facts : List FactValue)
      → EndsFrom left health pulls origin was is result facts → IsOfBytes result
      → IsResultOf origin.limits (origin.front ++ rest) result × StatesBefore origin.limits (origin.front ++ rest) result (origin.told ++
      facts)
  pulled is result facts (comes_to_end {part = part} {before = before} {allowed = allowed} reading can last end well finishes) of_bytes =
      let came = reading.came in
      let gave = Consumes-trans (left was) (left before) (left is) came []
      (Pulled-consumes left pulls was came reading.turns before reading.pulled) last.gave in
      let all = known_all (left was) (left is) rest (came ++ []) tells gave end ∙ append-nil came in
      let same : origin.front ++ rest ≡ origin.front ++ came = ap (λ (l : List ℕ). origin.front ++ l) all in
      subst (λ (b : List ℕ). IsResultOf origin.limits b result × StatesBefore origin.limits b result (origin.told ++ facts)) (sym same)
      (ended origin.limits (origin.front ++ came) (origin.told ++ facts) part result reading.read finishes)
  pulled is result facts
      (is_refused {part = part} next {before = before} {allowed = allowed} {piece = piece} {fault = fault} {facts = given} reading can last
      some
      well feeds) of_bytes =
      let known = known_with left health pulls origin was rest tells before is reading.came reading.turns piece
      (Pulled-consumes left pulls was reading.came reading.turns before reading.pulled) last.gave in
      refuses origin.limits (origin.front ++ reading.came) known.0 (origin.front ++ rest) origin.told given facts part next piece fault
      known.1 of_bytes feeds
  pulled is result facts (source_fails {part = part} {before = before} {allowed = allowed} reading can last ill) of_bytes = absurd cc
  pulled is result facts (reads_are_spent {part = part} reading well) of_bytes = absurd cc

  -- ---- a part with no fault

  module _ (ids : IdSize) (millis : ℕ) (all : List FactValue) (sound : HasNoFault origin.limits.max_item (origin.front ++ rest))
      (within : length (origin.front ++ rest) ≤ origin.limits.max_bytes) (part : IsPart (origin.front ++ rest) ids millis all) where
    pub given_of_part : (given : List FactValue) (reader : FactReader R) → HasGivenFrom left health pulls origin was given reader
        → (more : List FactValue) × (all ≡ origin.told ++ (given ++ more))
    given_of_part given reader has =
        let states = part_states origin.limits.max_item (origin.front ++ rest) ids millis all sound part in
        given_first left health pulls origin was rest tells given reader states.0 all has
        (subst (λ (b : List ℕ). StatesSoFar origin.limits.max_item b states.0 all)
        (sym (take_all origin.limits.max_bytes (origin.front ++ rest) within)) states.1)

    pub never_of_bytes : (is : R) (fault : PartFault) (given : List FactValue) → EndsFrom left health pulls origin was is (Err fault) given
        → is_of_bytes fault ≡ false
    never_of_bytes is fault given ends =
        elim (cases_Bool (is_of_bytes fault)) [
          | inl judged ↦
              absurd (never_both origin.limits (origin.front ++ rest) fault within sound (pulled is (Err fault) given ends judged).0)
          | inr other ↦ other
        ]

    pub all_at_end : (is : R) (summary : PartSummary) (given : List FactValue) → EndsFrom left health pulls origin was is (Ok summary) given
        → (all ≡ origin.told ++ given) × IsSummary (origin.front ++ rest) summary
    all_at_end is summary given ends =
        let it = pulled is (Ok summary) given ends tt in (
          (states_one (origin.front ++ rest) ids summary.header.ids millis summary.header.millis all (origin.told ++ given) part it.1).2,
          it.0.2,
        )

-- ---- both

module _ {R : Type 0} (left : R → Option (List ℕ)) (health : R → Health) (pulls : R → ℕ)
    {Q : Type 0} (left_too : Q → Option (List ℕ)) (health_too : Q → Health) (pulls_too : Q → ℕ)
    {S : Type 0} (begins : S → Header → S → Type 0) (steps : S → FactValue → S → Type 0) (refuses : S → List FactValue → SinkFault → S
    → Type 0)
    (failed : S → Bool) where
  pub agree : (origin : Origin) (rest : List ℕ) (was is : R) (result : Result PartSummary PartFault) (given : List FactValue)
      (was_too is_too : Q) (came : List ℕ) (other : Result PartSummary PartFault) (old new : S)
      → left was ≡ Some rest → left_too was_too ≡ Some (origin.front ++ rest)
      → EndsFrom left health pulls origin was is result given
      → Consumes (left_too was_too) (left_too is_too) came
      → ReadsPart left_too health_too pulls_too begins steps refuses failed origin.limits was_too came is_too old other new
      → IsOfBytes result → IsOfBytes other
      → (result ≡ other) × RunBefore begins steps other old (origin.told ++ given) new
  agree origin rest was is result given was_too is_too came other old new tells tells_too ends gave reads of_bytes of_bytes_too =
      let one = pulled left health pulls origin was rest tells is result given ends of_bytes in
      let two = pushed left_too health_too pulls_too begins steps refuses failed origin.limits was_too came is_too old new
      (origin.front ++ rest) tells_too gave other reads of_bytes_too in
      let same = result_once origin.limits (origin.front ++ rest) result other one.0 two.is in
      let facts = states_before_once origin.limits (origin.front ++ rest) result other (origin.told ++ given) two.facts same one.1
      two.states in (
        same,
        subst (λ (l : List FactValue). RunBefore begins steps other old l new) (sym facts) two.ran,
      )

  -- the same from the first byte on
  listed_before : (result : Result PartSummary PartFault) (facts given : List FactValue)
      → RunBefore {S = List FactValue} listing.begins listing.steps result [] facts given → given ≡ facts
  listed_before (Ok summary) facts given ran = run_listed [] (Some summary.header) facts given ran
  listed_before (Err fault) facts given ran = run_listed [] ran.0 facts given ran.1

  pub agree_from_start : (limits : Limits) (bytes : List ℕ) (was is : R) (result : Result PartSummary PartFault) (given : List FactValue)
      (was_too is_too : Q) (came : List ℕ) (other : Result PartSummary PartFault) (old new : S)
      → left was ≡ Some bytes → left_too was_too ≡ Some bytes → Ends left health pulls limits was is result given
      → Consumes (left_too was_too) (left_too is_too) came
      → ReadsPart left_too health_too pulls_too begins steps refuses failed limits was_too came is_too old other new
      → IsOfBytes result → IsOfBytes other → (result ≡ other) × RunBefore begins steps other old given new
  agree_from_start limits bytes was is result given was_too is_too came other old new tells tells_too ends gave reads of_bytes of_bytes_too
      =
      let one = pushed left health pulls {S = List FactValue} listing.begins listing.steps listing.refuses listing.failed limits was ends.0
      is
      [] given bytes tells ends.1 result ends.2 of_bytes in
      let two = pushed left_too health_too pulls_too begins steps refuses failed limits was_too came is_too old new bytes tells_too gave
      other
      reads of_bytes_too in
      let same = result_once limits bytes result other one.is two.is in
      let facts = states_before_once limits bytes result other one.facts two.facts same one.states two.states in (
        same,
        subst (λ (l : List FactValue). RunBefore begins steps other old l new)
            (sym (listed_before result one.facts given one.ran ∙ facts)) two.ran,
      )
