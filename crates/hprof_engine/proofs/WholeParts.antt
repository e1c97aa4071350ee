-- What is saved of parts that have no fault, and what stands before a fault.
use Rattle.std.proofs.Common.{◌≡◌, ℕ, false, List, [], ◌∷◌, length, map, take, Option, Some, None, Result, Ok, Err, refl, sym}
use Rattle.std.proofs.Common.{subst, ◌∙◌, append-nil, is_ok}
use Rattle.std.specs.List.{AllByRecursion}
use Rattle.std.proofs.Math.Seq.{take-length}
use Rattle.hprof_items.specs.declared.header.Header.{Header}
use Rattle.hprof_values.specs.declared.parse_stop.ParseStop.{ParseStop}
use Rattle.hprof_values.specs.declared.parse_stop.ParseStop.TheVariants.{Short, TooLong, Fault}
use Rattle.hprof_items.specs.FactValue.{FactValue}
use Rattle.hprof_stream.specs.declared.limits.Limits.{Limits}
use Rattle.hprof_stream.specs.declared.part_fault.PartFault.{PartFault}
use Rattle.hprof_stream.specs.Part.{all_bytes, all_facts, IsWritten}
use Rattle.hprof_stream.specs.Item.{Found, header_before, item_at}
use Rattle.hprof_stream.specs.Fault.{fault_at, HasNoFault, IsFirstFault, StatesSoFar}
use Rattle.hprof_stream.proofs.Faults.{none_stops, states_once}
use Rattle.hprof_stream.proofs.Grammar.{items_spelled}
use Rattle.hprof_rows.specs.HeapValue.{HeapValue}
use Rattle.hprof_heap.specs.declared.standing.Refusal.{Refusal}
use Rattle.hprof_heap.specs.declared.standing.Refusal.TheVariants as refusals
use Rattle.hprof_heap.specs.Gathering.{Given, Tells}
use Rattle.hprof_engine.specs.Joining.{IsAccepted, AreGiven}
use Rattle.hprof_engine.proofs.Answers.{agree, disagree, two_sizes, no_readers}
use Rattle.hprof_engine.specs.Saved.{Saved, IsSaved, given_with, given_of, AreSaved, SavesTo}
use Rattle.hprof_engine.specs.Sound.{JoinsTo, StandsBefore, IsAllOf}

-- where a step is at fault it is not whole
at_fault : (offset : ℕ) (step : Result (Found × ℕ) ParseStop) (fault : PartFault) → fault_at offset step ≡ Some fault → is_ok step ≡ false
at_fault offset (Ok (found, n)) fault e = absurd cc
at_fault offset (Err stop) fault e = refl

-- what is saved stands before the first fault
pub stands_before : (longest : ℕ) (bytes : List ℕ) (header : Option Header) (facts : List FactValue) (fault : PartFault)
    → IsFirstFault longest bytes fault → StatesSoFar longest bytes header facts → StandsBefore longest bytes fault header facts
stands_before longest bytes header facts fault first states =
    let here : StatesSoFar longest bytes (header_before first.place) (all_facts first.items) = record {
      items = first.items;
      place = first.place;
      rest = first.rest;
      splits = first.splits;
      ends = at_fault (length (all_bytes first.items)) (item_at longest first.place first.rest) fault first.fails;
      has_header = refl;
      has_facts = refl;
    } in
    let same = states_once longest bytes (header_before first.place) header (all_facts first.items) facts here states in
    record { first = first; has_header = same.0; has_facts = same.1 }

-- of a part that has no fault all is saved
pub all_of : (longest : ℕ) (bytes : List ℕ) (header : Option Header) (facts : List FactValue) → HasNoFault longest bytes
    → StatesSoFar longest bytes header facts → IsAllOf bytes header facts
all_of longest bytes header facts sound states =
    let spelled = items_spelled longest sound.place sound.items sound.at_end sound.splits.each in
    let all : all_bytes sound.items ≡ bytes = sym (append-nil (all_bytes sound.items)) ∙ sym sound.splits.parts in
    let here : StatesSoFar longest bytes (Some spelled.header) (all_facts spelled.records) = record {
      items = sound.items;
      place = sound.place;
      rest = [];
      splits = sound.splits;
      ends = none_stops longest sound.place;
      has_header = spelled.kept;
      has_facts = spelled.has_facts;
    } in
    let same = states_once longest bytes (Some spelled.header) header (all_facts spelled.records) facts here states in
    subst (λ (h : Option Header). IsAllOf bytes h facts) same.0 (record {
      header = spelled.header;
      records = spelled.records;
      written = subst (λ (b : List ℕ). IsWritten b spelled.header spelled.records) all spelled.written;
      has_ids = refl;
      has_millis = refl;
      has_facts = same.1;
    })

module _ (limits : Limits) where
  -- it is given whole
  add_whole : (bytes : List ℕ) (header : Option Header) (facts : List FactValue) (lefts : List (Option (List ℕ))) (others : List Given)
      → IsAccepted limits bytes → IsAllOf bytes header facts → AreGiven limits lefts others
      → AreGiven limits (Some bytes ∷ lefts) (given_with header facts others)
  add_whole bytes None facts lefts others accepted all are = absurd all
  add_whole bytes (Some header) facts lefts others accepted all are = ((accepted, all), are)

  given_whole : (saved : List Saved) → AllByRecursion (IsSaved limits.max_item) saved
      → AllByRecursion (IsAccepted limits) (map (λ one. one.bytes) saved)
      → AreGiven limits (map Some (map (λ one. one.bytes) saved)) (given_of saved)
  given_whole [] each accepted = tt
  given_whole (one ∷ saved) each accepted =
      add_whole one.bytes one.header one.facts (map Some (map (λ (s : Saved). s.bytes) saved)) (given_of saved) accepted.0
      (all_of limits.max_item one.bytes one.header one.facts accepted.0.0 each.0) (given_whole saved each.1 accepted.1)

  module _ (parts : List (List ℕ)) (given : List Given) (are : AreGiven limits (map Some parts) given) where
    of_all : AreGiven limits (map Some (take (length parts) parts)) given
    of_all = subst (λ (ps : List (List ℕ)). AreGiven limits (map Some ps) given) (sym (take-length parts)) are

    joins : (answer : Result HeapValue Refusal) → Tells given answer → JoinsTo parts answer
    joins (Ok heap) tells = agree Some limits parts given of_all parts refl heap tells
    joins (Err refusals.NoParts) tells = no_readers Some limits parts given of_all tells
    joins (Err refusals.IdSizes) tells = two_sizes Some limits parts given of_all parts refl tells
    joins (Err (refusals.Conflict key)) tells = disagree Some limits parts given of_all parts refl key tells
    joins (Err refusals.Failed) tells = absurd tells

  -- of parts that have no fault all is given
  pub sound_given : (parts : List (List ℕ)) (given : List Given) → AllByRecursion (IsAccepted limits) parts
      → AreSaved limits.max_item parts given → AreGiven limits (map Some parts) given
  sound_given parts given accepted are =
      let of_saved = given_whole are.saved are.each
      (subst (λ (ps : List (List ℕ)). AllByRecursion (IsAccepted limits) ps) (sym are.of_parts) accepted) in
      let of_parts = subst (λ (ps : List (List ℕ)). AreGiven limits (map Some ps) (given_of are.saved)) are.of_parts of_saved in
      subst (λ (gs : List Given). AreGiven limits (map Some parts) gs) are.has_given of_parts

  -- they come to what they come to where they are joined
  pub sound_joins : (parts : List (List ℕ)) (answer : Result HeapValue Refusal) → AllByRecursion (IsAccepted limits) parts
      → SavesTo limits.max_item parts answer → JoinsTo parts answer
  sound_joins parts answer accepted saves =
      joins parts saves.given (sound_given parts saves.given accepted saves.saved) answer saves.tells
