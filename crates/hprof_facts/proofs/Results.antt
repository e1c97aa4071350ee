-- What reading a part comes to is what its bytes come to, where neither memory nor reads, the source or the sink are wanting.
use Rattle.std.proofs.Common.{◌≡◌, ◌⊎◌, ℕ, ◌<◌, ◌≤◌, true, false, List, [], ◌++◌, length, take, Option, Some, Result, Ok, Err, inl, inr}
use Rattle.std.proofs.Common.{refl, sym, ap, subst, ◌∙◌, append-nil, arith, is_ok}
use Rattle.std.proofs.lemmas.Bool.{both_ways}
use Rattle.std.proofs.lemmas.List.{length-append, take-append-le, take_all}
use Rattle.hprof_values.specs.declared.ids.IdSize.{IdSize}
use Rattle.hprof_values.specs.declared.reason.Reason.TheVariants.{Truncated}
use Rattle.hprof_values.specs.declared.parse_stop.ParseStop.{ParseStop}
use Rattle.hprof_values.specs.declared.parse_stop.ParseStop.TheVariants.{Short, TooLong, Fault}
use Rattle.hprof_items.specs.declared.header.Header.{Header}
use Rattle.hprof_items.specs.FactValue.{FactValue}
use Rattle.hprof_stream.specs.declared.limits.Limits.{Limits}
use Rattle.hprof_stream.specs.declared.part_fault.PartFault.{PartFault}
use Rattle.hprof_stream.specs.declared.part_fault.PartFault.TheVariants as faults
use Rattle.hprof_stream.specs.declared.summary.PartSummary.{PartSummary}
use Rattle.hprof_stream.specs.Part.{IsPart, IsWritten, all_bytes, all_facts}
use Rattle.hprof_stream.specs.Item.{Found, Place, item_at}
use Rattle.hprof_stream.specs.Fault.{HasNoFault, HasNoSettledFault, IsFirstFault, StatesSoFar, fault_at, is_settled}
use Rattle.hprof_stream.specs.Reader.{IsSettledFault}
use Rattle.hprof_stream.proofs.Faults.{first_fault_once, no_fault_no_first, none_stops, splits_once}
use Rattle.hprof_stream.proofs.Grammar.{items_spelled}
use Rattle.hprof_stream.proofs.Longer.{longer_input, Splits-more}
use Rattle.hprof_stream.proofs.Parts.{states_one}
use Rattle.hprof_stream.proofs.Refusals.{item_stays, item_stays_long}
use Rattle.hprof_facts.specs.OfBytes.{IsResultOf}
use Rattle.hprof_facts.proofs.GivenFirst.{taken_first}
use Rattle.hprof_facts.proofs.OneSummary.{one_summary}

-- ---- bytes come to one result

-- no first fault is that there are too many bytes
never_exceeded : (offset : ℕ) (step : Result (Found × ℕ) ParseStop) → fault_at offset step ≡ Some faults.BytesExceeded → ⊥
never_exceeded offset (Ok (found, n)) e = absurd cc
never_exceeded offset (Err Short) e = absurd cc
never_exceeded offset (Err TooLong) e = absurd cc
never_exceeded offset (Err (Fault reason)) e = absurd cc

module _ (limits : Limits) (bytes : List ℕ) where
  Exceeds : PartFault → Type 0
  Exceeds fault = (fault ≡ faults.BytesExceeded) × (limits.max_bytes < length bytes)
      × HasNoSettledFault limits.max_item (take limits.max_bytes bytes)

  IsFirst : PartFault → Type 0
  IsFirst fault = IsFirstFault limits.max_item (take limits.max_bytes bytes) fault
      × (is_settled fault ≡ false → length bytes ≤ limits.max_bytes)

  either : (fault : PartFault) → IsResultOf limits bytes (Err fault) → Exceeds fault ⊎ IsFirst fault
  unfolding Exceeds IsFirst
  either faults.BytesExceeded is = inl (refl, is.0, is.1)
  either fault is = inr is

  pub first_result : (fault : PartFault) → IsFirstFault limits.max_item (take limits.max_bytes bytes) fault
      → (is_settled fault ≡ false → length bytes ≤ limits.max_bytes) → IsResultOf limits bytes (Err fault)
  first_result faults.BytesExceeded first within =
      absurd (never_exceeded (length (all_bytes first.items)) (item_at limits.max_item first.place first.rest) first.fails)
  first_result fault first within = (first, within)

  never_first : (fault : PartFault) → limits.max_bytes < length bytes → HasNoSettledFault limits.max_item (take limits.max_bytes bytes)
      → IsFirst fault → ⊥
  unfolding IsFirst
  never_first fault more none is = let within = is.1 (none fault is.0) in omega (arith, more, within)

  faults_once : (one two : PartFault) → Exceeds one ⊎ IsFirst one → Exceeds two ⊎ IsFirst two → one ≡ two
  unfolding Exceeds IsFirst
  faults_once one two (inl exceeds) (inl exceeds_too) = exceeds.0 ∙ sym exceeds_too.0
  faults_once one two (inl exceeds) (inr first) = absurd (never_first two exceeds.1 exceeds.2 first)
  faults_once one two (inr first) (inl exceeds) = absurd (never_first one exceeds.1 exceeds.2 first)
  faults_once one two (inr first) (inr first_too) =
      first_fault_once limits.max_item (take limits.max_bytes bytes) one two first.0 first_too.0

  not_either : (fault : PartFault) → length bytes ≤ limits.max_bytes → HasNoFault limits.max_item bytes
      → Exceeds fault ⊎ IsFirst fault → ⊥
  unfolding Exceeds IsFirst
  not_either fault within none (inl exceeds) = let more = exceeds.1 in omega (arith, within, more)
  not_either fault within none (inr first) =
      no_fault_no_first limits.max_item bytes fault none
      (subst (λ (b : List ℕ). IsFirstFault limits.max_item b fault) (take_all limits.max_bytes bytes within) first.0)

  pub never_both : (fault : PartFault) → length bytes ≤ limits.max_bytes → HasNoFault limits.max_item bytes
      → IsResultOf limits bytes (Err fault) → ⊥
  never_both fault within none is = not_either fault within none (either fault is)

  pub result_once : (one two : Result PartSummary PartFault) → IsResultOf limits bytes one → IsResultOf limits bytes two → one ≡ two
  result_once (Ok one) (Ok two) is is_too = ap Ok (one_summary bytes one two is.2 is_too.2)
  result_once (Ok one) (Err fault) is is_too = absurd (never_both fault is.0 is.1 is_too)
  result_once (Err fault) (Ok two) is is_too = absurd (never_both fault is_too.0 is_too.1 is)
  result_once (Err one) (Err two) is is_too = ap Err (faults_once one two (either one is) (either two is_too))

-- ---- faults of the bytes that came are those of all

-- more bytes than may come, with more behind, are taken as they were
taken_same : (limit : ℕ) (came more whole : List ℕ) → whole ≡ came ++ more → limit < length came → take limit whole ≡ take limit came
taken_same limit came more whole all exceeds = ap (take limit) all ∙ take-append-le limit came more (omega (arith, exceeds))

pub settled_result : (limits : Limits) (came more whole : List ℕ) (fault : PartFault) → whole ≡ came ++ more
    → IsSettledFault limits came fault → IsResultOf limits whole (Err fault)
settled_result limits came more whole faults.BytesExceeded all settled =
    let exceeds = settled.0 in (
      omega (arith, exceeds, ap (λ (l : List ℕ). length l) all, length-append came more),
      subst (λ (b : List ℕ). HasNoSettledFault limits.max_item b) (sym (taken_same limits.max_bytes came more whole all exceeds)) settled.1,
    )
settled_result limits came more whole fault all settled =
    let extra = taken_first limits.max_bytes came more in
    first_result limits whole fault
    (subst (λ (b : List ℕ). IsFirstFault limits.max_item b fault) (sym (ap (take limits.max_bytes) all ∙ extra.1))
    (longer_input limits.max_item (take limits.max_bytes came) extra.0 fault settled.0 settled.1))
    (λ unsettled. absurd (both_ways (is_settled fault) unsettled settled.1))

-- ---- what was stated before a fault that is settled is all that is stated before it

-- a test that fails for good
fails_on : (longest : ℕ) (place : Place) (rest extra : List ℕ) (offset : ℕ) (fault : PartFault) (step : Result (Found × ℕ) ParseStop)
    → item_at longest place rest ≡ step → fault_at offset step ≡ Some fault → is_settled fault ≡ true
    → is_ok (item_at longest place (rest ++ extra)) ≡ false
fails_on longest place rest extra offset fault (Ok (found, n)) is fails settled = absurd cc
fails_on longest place rest extra offset fault (Err Short) is fails settled =
    absurd (let e : faults.Malformed offset Truncated ≡ fault = cc in
    let no : is_settled (faults.Malformed offset Truncated) ≡ true = ap is_settled e ∙ settled in cc)
fails_on longest place rest extra offset fault (Err TooLong) is fails settled = ap is_ok (item_stays_long longest place rest extra is)
fails_on longest place rest extra offset fault (Err (Fault reason)) is fails settled =
    ap is_ok (item_stays longest place rest extra reason is)

fault_stops : (offset : ℕ) (step : Result (Found × ℕ) ParseStop) (fault : PartFault) → fault_at offset step ≡ Some fault
    → is_ok step ≡ false
fault_stops offset (Ok (found, n)) fault e = absurd cc
fault_stops offset (Err stop) fault e = refl

states_on : (longest : ℕ) (bytes extra : List ℕ) (fault : PartFault) (header : Option Header) (facts : List FactValue)
    → IsFirstFault longest bytes fault → is_settled fault ≡ true → StatesSoFar longest bytes header facts
    → StatesSoFar longest (bytes ++ extra) header facts
states_on longest bytes extra fault header facts first settled states =
    let same = splits_once longest bytes first.items states.items first.place states.place first.rest states.rest first.splits states.splits
    (fault_stops _ _ fault first.fails) states.ends in
    record {
      items = states.items;
      place = states.place;
      rest = states.rest ++ extra;
      splits = Splits-more longest bytes extra states.items states.place states.rest states.splits;
      ends = subst (λ (p : Place). is_ok (item_at longest p (states.rest ++ extra)) ≡ false) same.1
          (subst (λ (r : List ℕ). is_ok (item_at longest first.place (r ++ extra)) ≡ false) same.2
          (fails_on longest first.place first.rest extra (length (all_bytes first.items)) fault _ refl first.fails settled));
      has_header = states.has_header;
      has_facts = states.has_facts;
    }

pub settled_states : (limits : Limits) (came more whole : List ℕ) (fault : PartFault) (header : Option Header) (facts : List FactValue)
    → whole ≡ came ++ more → IsSettledFault limits came fault → StatesSoFar limits.max_item (take limits.max_bytes came) header facts
    → StatesSoFar limits.max_item (take limits.max_bytes whole) header facts
settled_states limits came more whole faults.BytesExceeded header facts all settled states =
    subst (λ (b : List ℕ). StatesSoFar limits.max_item b header facts)
    (sym (taken_same limits.max_bytes came more whole all settled.0)) states
settled_states limits came more whole fault header facts all settled states =
    let extra = taken_first limits.max_bytes came more in
    subst (λ (b : List ℕ). StatesSoFar limits.max_item b header facts) (sym (ap (take limits.max_bytes) all ∙ extra.1))
    (states_on limits.max_item (take limits.max_bytes came) extra.0 fault header facts settled.0 settled.1 states)

-- what a part states
pub part_states : (longest : ℕ) (bytes : List ℕ) (ids : IdSize) (millis : ℕ) (facts : List FactValue) → HasNoFault longest bytes
    → IsPart bytes ids millis facts → (header : Option Header) × StatesSoFar longest bytes header facts
part_states longest bytes ids millis facts sound part =
    let is = items_spelled longest sound.place sound.items sound.at_end sound.splits.each in
    let whole : all_bytes sound.items ≡ bytes = sym (append-nil (all_bytes sound.items)) ∙ sym sound.splits.parts in
    let again : IsPart bytes is.header.ids is.header.millis (all_facts is.records) = record {
      header = is.header;
      records = is.records;
      written = subst (λ (b : List ℕ). IsWritten b is.header is.records) whole is.written;
      has_ids = refl;
      has_millis = refl;
      has_facts = refl;
    } in
    let same = states_one bytes is.header.ids ids is.header.millis millis (all_facts is.records) facts again part in (
      Some is.header,
      record {
        items = sound.items;
        place = sound.place;
        rest = [];
        splits = sound.splits;
        ends = none_stops longest sound.place;
        has_header = is.kept;
        has_facts = is.has_facts ∙ same.2;
      },
    )
