-- Where a reader stands that resumed at a place.
use Rattle.std.proofs.Common.{◌≡◌, ℕ, ◌<◌, ◌≤◌, List, [], ◌++◌, length, take, Option, Some, Result, Ok, Err, inl, inr}
use Rattle.std.proofs.Common.{refl, sym, ap, subst, ◌∙◌, append_assoc, arith}
use Rattle.std.proofs.Math.Seq.{take-append_seam}
use Rattle.std.proofs.lemmas.Bool.{cases_Bool, cases_lt}
use Rattle.std.proofs.lemmas.List.{append_cancel_left, length-append, take_all}
use Rattle.hprof_devices.specs.declared.health.Health.{Health}
use Rattle.hprof_values.specs.declared.ids.IdSize.{IdSize}
use Rattle.hprof_items.specs.declared.header.Header.{Header}
use Rattle.hprof_items.specs.FactValue.{FactValue}
use Rattle.hprof_stream.specs.declared.part_fault.PartFault.{PartFault}
use Rattle.hprof_stream.specs.declared.summary.PartSummary.{PartSummary}
use Rattle.hprof_stream.specs.Part.{IsPart}
use Rattle.hprof_stream.specs.Fault.{HasNoFault, StatesSoFar}
use Rattle.hprof_stream.proofs.Faults.{states_once}
use Rattle.hprof_facts.specs.FactReader.{EndsFrom, HasGivenFrom, HasGivenOrFails, HasPassed, IsOver, Origin, last_answer}
use Rattle.hprof_facts.specs.Queues.{has_refused}
use Rattle.hprof_facts.specs.OfBytes.{IsOfBytes, is_of_bytes}
use Rattle.hprof_facts.specs.declared.fact_reader.FactReader.{FactReader}
use Rattle.hprof_facts.proofs.Agreeing.{pulled}
use Rattle.hprof_facts.proofs.Given.{over_ends}
use Rattle.hprof_facts.proofs.GivenFirst.{given_first}
use Rattle.hprof_facts.proofs.Queues.{holds_once}
use Rattle.hprof_facts.proofs.Results.{part_states}

-- the first of a list are as many in one way
same_first : (some others behind more : List FactValue) → length some ≡ length others → some ++ behind ≡ others ++ more → some ≡ others
same_first some others behind more long same =
    sym (take-append_seam some behind) ∙ ap (take (length some)) same ∙ ap (λ (n : ℕ). take n (others ++ more)) long
    ∙ take-append_seam others more

module _ {R : Type 0} (left : R → Option (List ℕ)) (health : R → Health) (pulls : R → ℕ) (origin : Origin) (was : R) (rest : List ℕ)
    (tells : left was ≡ Some rest) (header : Option Header) (passed others : List FactValue)
    (states : StatesSoFar origin.limits.max_item (take origin.limits.max_bytes (origin.front ++ rest)) header
    ((origin.told ++ passed) ++ others)) where
  -- what was given is as long only where it is the same
  stands_behind : (given : List FactValue) (reader : FactReader R) → HasGivenFrom left health pulls origin was given reader
      → length given ≡ length passed → HasGivenFrom left health pulls origin was passed reader
  stands_behind given reader has long =
      let first = given_first left health pulls origin was rest tells given reader header ((origin.told ++ passed) ++ others) has states in
      let same : passed ++ others ≡ given ++ first.0 =
      append_cancel_left origin.told (passed ++ others) (given ++ first.0) (sym (append_assoc origin.told passed others) ∙ first.1) in
      subst (λ (l : List FactValue). HasGivenFrom left health pulls origin was l reader)
      (same_first given passed first.0 others long (sym same)) has

  -- a result that the bytes decide comes behind all facts
  too_few : (given : List FactValue) → length given < length passed → (origin.told ++ passed) ++ others ≡ origin.told ++ given → ⊥
  too_few given few same =
      omega (
        arith,
        few,
        ap (λ (l : List FactValue). length l) same,
        length-append (origin.told ++ passed) others,
        length-append origin.told passed,
        length-append origin.told given,
      )

  ends_of_bytes : (is : R) (result : Result PartSummary PartFault) (given : List FactValue)
      → EndsFrom left health pulls origin was is result given → IsOfBytes result → (origin.told ++ passed) ++ others ≡ origin.told ++ given
  ends_of_bytes is (Ok summary) given ends of_bytes =
      let whole : List ℕ = origin.front ++ rest in
      let it = pulled left health pulls origin was rest tells is (Ok summary) given ends of_bytes in
      let all = part_states origin.limits.max_item whole summary.header.ids summary.header.millis (origin.told ++ given) it.0.1 it.1 in
      (states_once origin.limits.max_item whole header all.0 ((origin.told ++ passed) ++ others) (origin.told ++ given)
      (subst (λ (b : List ℕ). StatesSoFar origin.limits.max_item b header ((origin.told ++ passed) ++ others))
      (take_all origin.limits.max_bytes whole it.0.0) states) all.1).1
  ends_of_bytes is (Err fault) given ends of_bytes =
      let it = pulled left health pulls origin was rest tells is (Err fault) given ends of_bytes in
      (states_once origin.limits.max_item (take origin.limits.max_bytes (origin.front ++ rest)) header it.1.0
      ((origin.told ++ passed) ++ others) (origin.told ++ given) states it.1.1).1

  fails : (given : List FactValue) (reader : FactReader R) (result : Result PartSummary PartFault) → reader.outcome ≡ result
      → length given < length passed → IsOver reader → EndsFrom left health pulls origin was reader.source result given
      → HasGivenOrFails left health pulls origin was passed reader
  fails given reader (Ok summary) is few over ends =
      absurd (too_few given few (ends_of_bytes reader.source (Ok summary) given ends tt))
  fails given reader (Err fault) is few over ends =
      elim (cases_Bool (is_of_bytes fault)) [
        | inl judged ↦ absurd (too_few given few (ends_of_bytes reader.source (Err fault) given ends judged))
        | inr other ↦ inr (over, (fault, ap last_answer is, other))
      ]

  pub stands_or_fails : (reader : FactReader R) → HasPassed left health pulls origin was (length passed) reader
      → HasGivenOrFails left health pulls origin was passed reader
  stands_or_fails reader has =
      let given = has.passed in
      let few = has.few in
      elim (cases_lt (length given) (length passed)) [
        | inl fewer ↦
            let over = has.over fewer in
            let queued = holds_once reader.queue has.given.queued [] has.given.holds over.1 in
            fails given reader reader.outcome refl fewer over (over_ends left health pulls origin was reader.part reader.source
            reader.reads_left reader.outcome (has_refused reader.queue) given has.given.queued over.0 queued has.given.read)
        | inr all ↦ inl (stands_behind given reader has.given (omega (arith, few, all)))
      ]

-- the same in a part with no fault
module _ {R : Type 0} (left : R → Option (List ℕ)) (health : R → Health) (pulls : R → ℕ) (origin : Origin) (was : R) (rest : List ℕ)
    (tells : left was ≡ Some rest) where
  pub stands_in_part : (ids : IdSize) (millis : ℕ) (passed others : List FactValue) (reader : FactReader R)
      → HasNoFault origin.limits.max_item (origin.front ++ rest) → length (origin.front ++ rest) ≤ origin.limits.max_bytes
      → IsPart (origin.front ++ rest) ids millis ((origin.told ++ passed) ++ others)
      → HasPassed left health pulls origin was (length passed) reader
      → HasGivenOrFails left health pulls origin was passed reader
  stands_in_part ids millis passed others reader sound within part has =
      let all : List FactValue = (origin.told ++ passed) ++ others in
      let states = part_states origin.limits.max_item (origin.front ++ rest) ids millis all sound part in
      stands_or_fails left health pulls origin was rest tells states.0 passed others
      (subst (λ (b : List ℕ). StatesSoFar origin.limits.max_item b states.0 all)
      (sym (take_all origin.limits.max_bytes (origin.front ++ rest) within)) states.1) reader has
