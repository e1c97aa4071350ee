-- What a reader has given of a part that is read again, of which some facts stand at the front.
use Rattle.std.proofs.Common.{◌≡◌, ◌<◌, ℕ, List, [], ◌∷◌, ◌++◌, length, take, Option, Some, Result, Ok, Err, inl, inr, refl, sym, ap}
use Rattle.std.proofs.Common.{subst, ◌∙◌, append_assoc, arith}
use Rattle.std.proofs.Math.Seq.{take-append_seam}
use Rattle.std.proofs.lemmas.Bool.{cases_Bool, cases_lt}
use Rattle.std.proofs.lemmas.List.{append_cancel_left, length-append, take_all}
use Rattle.hprof_devices.specs.declared.health.Health.{Health}
use Rattle.hprof_values.specs.declared.ids.IdSize.{IdSize}
use Rattle.hprof_items.specs.declared.header.Header.{Header}
use Rattle.hprof_items.specs.FactValue.{FactValue}
use Rattle.hprof_stream.specs.declared.part_fault.PartFault.{PartFault}
use Rattle.hprof_stream.specs.declared.summary.PartSummary.{PartSummary}
use Rattle.hprof_stream.specs.Fault.{StatesSoFar}
use Rattle.hprof_facts.specs.declared.fact_reader.FactReader.{FactReader}
use Rattle.hprof_facts.specs.FactReader.{EndsFrom, HasGivenFrom, HasGivenOrFails, HasPassed, IsOver, Origin, last_answer}
use Rattle.hprof_facts.specs.OfBytes.{IsOfBytes, is_of_bytes}
use Rattle.hprof_facts.specs.Queues.{begun_with, has_refused}
use Rattle.hprof_facts.specs.Sizes.{StatesUnder}
use Rattle.hprof_facts.proofs.Agreeing.{pulled}
use Rattle.hprof_facts.proofs.Fronts.{first_facts}
use Rattle.hprof_facts.proofs.Given.{over_ends}
use Rattle.hprof_facts.proofs.Queues.{holds_once}
use Rattle.hprof_facts.proofs.Results.{part_states}
use Rattle.hprof_objects.proofs.FrontFacts.{facts_go_on, one_size}

-- the first of a list are as many in one way
same_first : (some others behind more : List FactValue) → length some ≡ length others → some ++ behind ≡ others ++ more → some ≡ others
same_first some others behind more long same =
    sym (take-append_seam some behind) ∙ ap (take (length some)) same ∙ ap (λ (n : ℕ). take n (others ++ more)) long
    ∙ take-append_seam others more

-- the first of some facts is the first of those that go on
first_is : (behind more rest : List FactValue) (fact : FactValue) → (behind ≡ [] → ⊥) → fact ∷ rest ≡ behind ++ more
    → (after : List FactValue) × (behind ≡ fact ∷ after)
first_is [] more rest fact some same = absurd (some refl)
first_is (one ∷ behind) more rest fact some same =
    let first : one ≡ fact = cc in
    (behind, ap (λ (f : FactValue). f ∷ behind) first)

some_facts : (before behind : List FactValue) → (behind ≡ [] → ⊥) → before ++ behind ≡ [] → ⊥
some_facts [] behind some e = some e
some_facts (fact ∷ before) behind some e = cc

-- facts are put behind those before them
behind_given : (told given queued : List FactValue) (fact : FactValue)
    → told ++ ((given ++ fact ∷ []) ++ queued) ≡ (told ++ given) ++ fact ∷ queued
behind_given told given queued fact =
    ap (λ (l : List FactValue). told ++ l) (append_assoc given (fact ∷ []) queued) ∙ sym (append_assoc told given (fact ∷ queued))

module _ {R : Type 0} (left : R → Option (List ℕ)) (health : R → Health) (pulls : R → ℕ) (origin : Origin) (was : R) (rest : List ℕ)
    (tells : left was ≡ Some rest) (ids : IdSize) (passed behind : List FactValue)
    (states : StatesUnder origin.limits.max_item (take origin.limits.max_bytes (origin.front ++ rest)) ((origin.told ++ passed) ++ behind)
    (Some ids)) where
  abbrev bytes : List ℕ
  bytes = take origin.limits.max_bytes (origin.front ++ rest)

  abbrev all : List FactValue
  all = (origin.told ++ passed) ++ behind

  -- ---- the next fact

  -- it is the first of those behind, and kept under the size of the part
  pub next_given : (fact : FactValue) (reader : FactReader R) → HasGivenFrom left health pulls origin was (passed ++ fact ∷ []) reader
      → (behind ≡ [] → ⊥) → ((after : List FactValue) × (behind ≡ fact ∷ after)) × (begun_with reader.queue ≡ Some ids)
  next_given fact reader has some =
      let facts : List FactValue = origin.told ++ ((passed ++ fact ∷ []) ++ has.queued) in
      let under : StatesUnder origin.limits.max_item bytes facts (begun_with reader.queue) = has.sized rest tells in
      let same = behind_given origin.told passed has.queued fact in (
        elim (facts_go_on origin.limits.max_item bytes facts all (begun_with reader.queue) (Some ids) under states) [
          | inl on ↦ (
            has.queued ++ on.0,
            append_cancel_left (origin.told ++ passed) behind (fact ∷ (has.queued ++ on.0))
                (on.1 ∙ ap (λ (l : List FactValue). l ++ on.0) same
                ∙ append_assoc (origin.told ++ passed) (fact ∷ has.queued) on.0),
          )
          | inr on ↦
              first_is behind on.0 has.queued fact some
              (append_cancel_left (origin.told ++ passed) (fact ∷ has.queued) (behind ++ on.0)
              (sym same ∙ on.1 ∙ append_assoc (origin.told ++ passed) behind on.0))
        ],
        one_size origin.limits.max_item bytes facts all (begun_with reader.queue) (Some ids) under states
            (λ none. some_facts (origin.told ++ passed) (fact ∷ has.queued) (λ e. cc) (sym same ∙ none))
            (some_facts (origin.told ++ passed) behind some),
      )

  -- ---- the end

  -- where the bytes end it, all that they state was given
  complete : (is : R) (result : Result PartSummary PartFault) (given : List FactValue)
      → EndsFrom left health pulls origin was is result given → IsOfBytes result
      → (header : Option Header) × StatesSoFar origin.limits.max_item bytes header (origin.told ++ given)
  complete is (Ok summary) given ends of_bytes =
      let whole : List ℕ = origin.front ++ rest in
      let it = pulled left health pulls origin was rest tells is (Ok summary) given ends of_bytes in
      let stated = part_states origin.limits.max_item whole summary.header.ids summary.header.millis (origin.told ++ given) it.0.1 it.1 in (
        stated.0,
        subst (λ (b : List ℕ). StatesSoFar origin.limits.max_item b stated.0 (origin.told ++ given))
            (sym (take_all origin.limits.max_bytes whole it.0.0)) stated.1,
      )
  complete is (Err fault) given ends of_bytes =
      (pulled left health pulls origin was rest tells is (Err fault) given ends of_bytes).1

  pub all_given : (is : R) (result : Result PartSummary PartFault) (given : List FactValue)
      → EndsFrom left health pulls origin was is result given → IsOfBytes result
      → (more : List FactValue) × (origin.told ++ given ≡ ((origin.told ++ passed) ++ behind) ++ more)
  all_given is result given ends of_bytes =
      let it = complete is result given ends of_bytes in
      first_facts origin.limits.max_item bytes it.0 (origin.told ++ given) it.1 all (record {
        items = states.items;
        place = states.place;
        rest = states.rest;
        splits = states.splits;
        has_facts = states.has_facts;
      })

  -- ---- where it stands

  -- what was given is as long only where it is the same
  stands_behind : (given : List FactValue) (reader : FactReader R) → HasGivenFrom left health pulls origin was given reader
      → length given ≡ length passed → HasGivenFrom left health pulls origin was passed reader
  stands_behind given reader has long =
      subst (λ (l : List FactValue). HasGivenFrom left health pulls origin was l reader) same has
    where
      same : given ≡ passed
      same =
          elim (facts_go_on origin.limits.max_item bytes (origin.told ++ (given ++ has.queued)) all (begun_with reader.queue) (Some ids)
          (has.sized rest tells) states) [
            | inl on ↦
                same_first given passed (has.queued ++ on.0) behind long
                (append_cancel_left origin.told (given ++ (has.queued ++ on.0)) (passed ++ behind)
                (ap (λ (l : List FactValue). origin.told ++ l) (sym (append_assoc given has.queued on.0))
                ∙ sym (append_assoc origin.told (given ++ has.queued) on.0) ∙ sym on.1 ∙ append_assoc origin.told passed behind))
            | inr on ↦
                same_first given passed has.queued (behind ++ on.0) long
                (append_cancel_left origin.told (given ++ has.queued) (passed ++ (behind ++ on.0))
                (on.1 ∙ append_assoc (origin.told ++ passed) behind on.0 ∙ append_assoc origin.told passed (behind ++ on.0)))
          ]

  -- a result that the bytes decide comes behind all facts
  too_few : (is : R) (result : Result PartSummary PartFault) (given : List FactValue)
      → EndsFrom left health pulls origin was is result given → IsOfBytes result → length given < length passed → ⊥
  too_few is result given ends of_bytes few =
      let it = all_given is result given ends of_bytes in
      omega (
        arith,
        few,
        ap (λ (l : List FactValue). length l) it.1,
        length-append ((origin.told ++ passed) ++ behind) it.0,
        length-append (origin.told ++ passed) behind,
        length-append origin.told passed,
        length-append origin.told given,
      )

  fails : (given : List FactValue) (reader : FactReader R) (result : Result PartSummary PartFault) → reader.outcome ≡ result
      → length given < length passed → IsOver reader → EndsFrom left health pulls origin was reader.source result given
      → HasGivenOrFails left health pulls origin was passed reader
  fails given reader (Ok summary) is few over ends = absurd (too_few reader.source (Ok summary) given ends tt few)
  fails given reader (Err fault) is few over ends =
      elim (cases_Bool (is_of_bytes fault)) [
        | inl judged ↦ absurd (too_few reader.source (Err fault) given ends judged few)
        | inr other ↦ inr (over, (fault, ap last_answer is, other))
      ]

  pub stands_or_fails : (reader : FactReader R) → HasPassed left health pulls origin was (length passed) reader
      → HasGivenOrFails left health pulls origin was passed reader
  stands_or_fails reader has =
      let given = has.passed in
      let few = has.few in
      elim (cases_lt (length given) (length passed)) [
        | inl fewer ↦
            let over = has.over fewer in
            let queued = holds_once reader.queue has.given.queued [] has.given.holds over.1 in
            fails given reader reader.outcome refl fewer over (over_ends left health pulls origin was reader.part reader.source
            reader.reads_left reader.outcome (has_refused reader.queue) given has.given.queued over.0 queued has.given.read)
        | inr all ↦ inl (stands_behind given reader has.given (omega (arith, few, all)))
      ]
