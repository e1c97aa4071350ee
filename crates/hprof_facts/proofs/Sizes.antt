-- The size of identifiers under which a reader keeps facts is the one that its part states.
use Rattle.std.proofs.Common.{◌≡◌, ℕ, ◌≤◌, List, [], ◌∷◌, ◌++◌, length, take, Option, Some, None, Err, inl, inr}
use Rattle.std.proofs.Common.{refl, sym, ap, subst, ◌∙◌, append_assoc, append-nil}
use Rattle.std.proofs.lemmas.List.{take_all}
use Rattle.hprof_devices.specs.declared.health.Health.{Health}
use Rattle.hprof_values.specs.declared.ids.IdSize.{IdSize}
use Rattle.hprof_items.specs.declared.header.Header.{Header}
use Rattle.hprof_items.specs.FactValue.{FactValue}
use Rattle.hprof_stream.specs.declared.limits.Limits.{Limits}
use Rattle.hprof_stream.specs.declared.part_fault.PartFault.{PartFault}
use Rattle.hprof_stream.specs.declared.part_fault.PartFault.TheVariants as faults
use Rattle.hprof_stream.specs.declared.part_reader.PartReader.{PartReader}
use Rattle.hprof_stream.specs.Part.{IsPart, IsWritten, all_bytes, all_facts}
use Rattle.hprof_stream.specs.Item.{header_before}
use Rattle.hprof_stream.specs.Fault.{HasNoFault, StatesSoFar}
use Rattle.hprof_stream.specs.Progress.{place_of}
use Rattle.hprof_stream.specs.Reader.{Feeds, HasRead, IsPull, IsReady, IsUnheld, RanOver, RanUnheld, header_of}
use Rattle.hprof_stream.specs.Run.{Run, Steps, became}
use Rattle.hprof_stream.specs.Walking.{IsBegun}
use Rattle.hprof_stream.proofs.Faults.{none_stops}
use Rattle.hprof_stream.proofs.FedRuns.{Pulled-consumes}
use Rattle.hprof_stream.proofs.Grammar.{items_spelled}
use Rattle.hprof_stream.proofs.ItemLists.{header_at_place, items_at_start}
use Rattle.hprof_stream.proofs.Longer.{Splits-more}
use Rattle.hprof_stream.proofs.Parts.{states_one}
use Rattle.hprof_facts.specs.declared.queue.Queue.{Queue}
use Rattle.hprof_facts.specs.FactReader.{HasGivenFrom, IsReading, IsSized, Origin}
use Rattle.hprof_facts.specs.Queues.{Holds, begun_with, has_refused, queue_begins, queue_refuses, queue_steps}
use Rattle.hprof_facts.specs.Sizes.{StatesUnder}
use Rattle.hprof_facts.specs.declared.fact_reader.FactReader.{FactReader}
use Rattle.hprof_facts.proofs.Fronts.{first_header}
use Rattle.hprof_facts.proofs.GivenFirst.{known_first, known_with, taken_first}
use Rattle.hprof_facts.proofs.Listed.{IsFilled, run_holds}
use Rattle.hprof_facts.proofs.Queues.{holds_once}

-- ---- bytes

-- more bytes behind
under_more : (longest : ℕ) (bytes extra : List ℕ) (facts : List FactValue) (begun : Option IdSize) → StatesUnder longest bytes facts begun
    → StatesUnder longest (bytes ++ extra) facts begun
under_more longest bytes extra facts begun under = record {
  items = under.items;
  place = under.place;
  rest = under.rest ++ extra;
  splits = Splits-more longest bytes extra under.items under.place under.rest under.splits;
  has_facts = under.has_facts;
  has_size = under.has_size;
}

taken_under : (longest limit : ℕ) (bytes more whole : List ℕ) (facts : List FactValue) (begun : Option IdSize) → whole ≡ bytes ++ more
    → StatesUnder longest (take limit bytes) facts begun → StatesUnder longest (take limit whole) facts begun
taken_under longest limit bytes more whole facts begun same under =
    let all = taken_first limit bytes more in
    subst (λ (b : List ℕ). StatesUnder longest b facts begun) (sym (ap (take limit) same ∙ all.1))
    (under_more longest (take limit bytes) all.0 facts begun under)

-- what a reader has read, and the size that its sink was begun with
read_under : (limits : Limits) (bytes : List ℕ) (facts : List FactValue) (reader : PartReader) (begun : Option IdSize)
    → HasRead limits bytes facts reader → IsReady reader begun → StatesUnder limits.max_item (take limits.max_bytes bytes) facts begun
read_under limits bytes facts reader begun read ready =
    subst (λ (b : List ℕ). StatesUnder limits.max_item b facts begun) (sym (take_all limits.max_bytes bytes read.within))
    (record {
      items = read.items;
      place = place_of reader.progress;
      rest = read.unfinished;
      splits = read.splits;
      has_facts = read.has_facts;
      has_size = subst (λ (h : Option Header). IsBegun h begun) (sym (header_at_place (header_of reader) reader.progress.room))
          (ready read.sound);
    })

-- ---- runs of a queue

steps_begun : (old : Queue) (facts : List FactValue) (new : Queue) → Steps {S = Queue} queue_begins queue_steps old facts new
    → begun_with new ≡ begun_with old
steps_begun old [] new same = ap begun_with (sym same)
steps_begun old (fact ∷ facts) new run = steps_begun run.0 facts new run.2 ∙ run.1.3

-- it was begun with the size of the header that is read by then
run_begun : (from to : Option Header) (facts : List FactValue) (old new : Queue)
    → ((header : Header) → from ≡ Some header → to ≡ Some header) → IsBegun from (begun_with old)
    → Run {S = Queue} queue_begins queue_steps old (became from to) facts new → IsBegun to (begun_with new)
run_begun None None facts old new stays begun run = tt
run_begun None (Some header) facts old new stays begun run = steps_begun run.0 facts new run.2 ∙ run.1.3
run_begun (Some one) to facts old new stays begun run =
    subst (λ (h : Option Header). IsBegun h (begun_with new)) (sym (stays one refl)) (steps_begun old facts new run ∙ begun)

-- ---- where a piece is refused

-- a queue holds facts behind these, and they are kept under the size of the part
record HoldsUnder (longest : ℕ) (bytes : List ℕ) (facts : List FactValue) (queue : Queue) : Type 0 where
  handed : List FactValue
  holds : Holds queue handed
  under : StatesUnder longest bytes (facts ++ handed) (begun_with queue)

module _ (limits : Limits) (bytes : List ℕ) (facts : List FactValue) (from to : PartReader) (piece : List ℕ) (old new : Queue)
    (filled : IsFilled [] old) (read : HasRead limits bytes facts from) (ready : IsReady from (begun_with old))
    (stays : (header : Header) → header_of from ≡ Some header → header_of to ≡ Some header) where
  over_under : (seen : List ℕ)
      → RanOver {S = Queue} queue_begins queue_steps limits.max_item seen facts (header_of from) (header_of to) old new
      → HoldsUnder limits.max_item seen facts new
  over_under seen over =
      let states = over.states in
      record {
        handed = over.handed;
        holds = (run_holds old (became (header_of from) (header_of to)) over.handed new filled over.ran).holds;
        under = record {
          items = states.items;
          place = states.place;
          rest = states.rest;
          splits = states.splits;
          has_facts = states.has_facts;
          has_size = subst (λ (h : Option Header). IsBegun h (begun_with new)) (sym states.has_header)
              (run_begun (header_of from) (header_of to) over.handed old new stays (ready read.sound) over.ran);
        };
      }

  unheld_under : (unheld : IsUnheld limits bytes piece)
      → RanUnheld {S = Queue} queue_begins queue_steps limits bytes piece unheld facts (header_of from) old (header_of to) new
      → HoldsUnder limits.max_item (take limits.max_bytes (bytes ++ piece)) facts new
  unheld_under (inl whole) ran =
      subst (λ (b : List ℕ). HoldsUnder limits.max_item b facts new) (sym (take_all limits.max_bytes (bytes ++ piece) whole.0.0))
      (over_under (bytes ++ piece) ran)
  unheld_under (inr held) ran = record {
    handed = [];
    holds = subst (λ (q : Queue). Holds q []) ran.1 filled.holds;
    under = subst (λ (l : List FactValue). StatesUnder limits.max_item (take limits.max_bytes (bytes ++ piece)) l (begun_with new))
        (sym (append-nil facts))
        (subst (λ (q : Queue). StatesUnder limits.max_item (take limits.max_bytes (bytes ++ piece)) facts (begun_with q)) ran.1
        (taken_under limits.max_item limits.max_bytes bytes piece (bytes ++ piece) facts (begun_with old) refl
        (read_under limits bytes facts from (begun_with old) read ready)));
  }

  feeds_under : (fault : PartFault)
      → Feeds {S = Queue} queue_begins queue_steps queue_refuses has_refused limits bytes facts from piece old (Err fault) to new
      → HoldsUnder limits.max_item (take limits.max_bytes (bytes ++ piece)) facts new
  feeds_under fault fed = by fault fed
    where
      by : (f : PartFault)
          → Feeds {S = Queue} queue_begins queue_steps queue_refuses has_refused limits bytes facts from piece old (Err f) to new
          → HoldsUnder limits.max_item (take limits.max_bytes (bytes ++ piece)) facts new
      by faults.OutOfMemory lacks = unheld_under lacks.1.0 lacks.1.1
      by (faults.Sink why) refused =
          let whole = refused.0 in
          let ran = refused.1.ran in
          let last = refused.1.refused.0 in
          record {
            handed = ran.handed;
            holds = last.1 ran.handed
                (run_holds old (became (header_of from) (header_before whole.before)) ran.handed refused.1.mid filled ran.ran).holds;
            under = record {
              items = whole.items;
              place = whole.before;
              rest = whole.last.bytes ++ whole.back;
              splits = record { each = whole.each; parts = whole.parts };
              has_facts = ran.has_facts;
              has_size = subst (λ (b : Option IdSize). IsBegun (header_before whole.before) b) (sym last.3)
                  (run_begun (header_of from) (header_before whole.before) ran.handed old refused.1.mid ran.stays (ready read.sound)
                  ran.ran);
            };
          }
      by f is_fault = over_under (take limits.max_bytes (bytes ++ piece)) is_fault.1

-- ---- what a reader has read and given

module _ {R : Type 0} (left : R → Option (List ℕ)) (health : R → Health) (pulls : R → ℕ) (origin : Origin) (was : R) where
  pub reading_sized : (part : PartReader) (is : R) (allowed : ℕ) (facts : List FactValue) (begun : Option IdSize)
      → IsReading left health pulls origin was part is allowed facts → IsReady part begun → IsSized left health pulls origin was begun facts
  reading_sized part is allowed facts begun reading ready = λ rest tells.
      let bytes : List ℕ = origin.front ++ reading.came in
      let limits = origin.limits in
      let known = known_first (left was) (left is) rest reading.came tells
      (Pulled-consumes left pulls was reading.came reading.turns is reading.pulled) in
      let whole : origin.front ++ rest ≡ bytes ++ known.0 =
      ap (λ (l : List ℕ). origin.front ++ l) known.1 ∙ sym (append_assoc origin.front reading.came known.0) in
      taken_under limits.max_item limits.max_bytes bytes known.0 (origin.front ++ rest) (origin.told ++ facts) begun whole
      (read_under limits bytes (origin.told ++ facts) part begun reading.read ready)

  -- and nothing is queued
  pub sized_none : (part : PartReader) (is : R) (allowed : ℕ) (facts : List FactValue) (begun : Option IdSize)
      → IsReading left health pulls origin was part is allowed facts → IsReady part begun
      → IsSized left health pulls origin was begun (facts ++ [])
  sized_none part is allowed facts begun reading ready =
      subst (λ (l : List FactValue). IsSized left health pulls origin was begun l) (sym (append-nil facts))
      (reading_sized part is allowed facts begun reading ready)

  -- a piece came, and feeding it was refused
  pub sized_refused : (part next : PartReader) (before is : R) (allowed : ℕ) (facts handed : List FactValue) (piece : List ℕ)
      (fault : PartFault) (old new : Queue) → IsPull left pulls before piece is → IsFilled [] old → IsReady part (begun_with old)
      → ((header : Header) → header_of part ≡ Some header → header_of next ≡ Some header)
      → ((bytes : List ℕ) (others : List FactValue) → HasRead origin.limits bytes others part
      → Feeds {S = Queue} queue_begins queue_steps queue_refuses has_refused origin.limits bytes others part piece old (Err fault) next new)
      → Holds new handed → IsReading left health pulls origin was part before allowed facts
      → IsSized left health pulls origin was (begun_with new) (facts ++ handed)
  sized_refused part next before is allowed facts handed piece fault old new last filled ready stays feeds holds reading = λ rest tells.
      let limits = origin.limits in
      let bytes : List ℕ = origin.front ++ reading.came in
      let told : List FactValue = origin.told ++ facts in
      let known = known_with left health pulls origin was rest tells before is reading.came reading.turns piece
      (Pulled-consumes left pulls was reading.came reading.turns before reading.pulled) last.gave in
      let it = feeds_under limits bytes told part next piece old new filled reading.read ready stays fault
      (feeds bytes told reading.read) in
      let same : told ++ it.handed ≡ origin.told ++ (facts ++ handed) =
      ap (λ (l : List FactValue). told ++ l) (holds_once new it.handed handed it.holds holds) ∙ append_assoc origin.told facts handed in
      taken_under limits.max_item limits.max_bytes (bytes ++ piece) known.0 (origin.front ++ rest) (origin.told ++ (facts ++ handed))
      (begun_with new) known.1
      (subst (λ (l : List FactValue). StatesUnder limits.max_item (take limits.max_bytes (bytes ++ piece)) l (begun_with new)) same
      it.under)

-- ---- a part with no fault

-- its header states its size
part_header : (longest : ℕ) (bytes : List ℕ) (ids : IdSize) (millis : ℕ) (facts : List FactValue) → HasNoFault longest bytes
    → IsPart bytes ids millis facts → (header : Header) × StatesSoFar longest bytes (Some header) facts × (header.ids ≡ ids)
part_header longest bytes ids millis facts sound part =
    let is = items_spelled longest sound.place sound.items sound.at_end sound.splits.each in
    let whole : all_bytes sound.items ≡ bytes = sym (append-nil (all_bytes sound.items)) ∙ sym sound.splits.parts in
    let again : IsPart bytes is.header.ids is.header.millis (all_facts is.records) = record {
      header = is.header;
      records = is.records;
      written = subst (λ (b : List ℕ). IsWritten b is.header is.records) whole is.written;
      has_ids = refl;
      has_millis = refl;
      has_facts = refl;
    } in
    let same = states_one bytes is.header.ids ids is.header.millis millis (all_facts is.records) facts again part in (
      is.header,
      record {
        items = sound.items;
        place = sound.place;
        rest = [];
        splits = sound.splits;
        ends = none_stops longest sound.place;
        has_header = is.kept;
        has_facts = is.has_facts ∙ same.2;
      },
      same.0,
    )

-- facts of a part are kept under its size
under_header : (longest : ℕ) (bytes : List ℕ) (one : Header) (all facts : List FactValue) (begun : Option IdSize)
    → StatesSoFar longest bytes (Some one) all → (under : StatesUnder longest bytes facts begun) → (facts ≡ [] → ⊥)
    → (told : Option Header) → header_before under.place ≡ told → IsBegun told begun → begun ≡ Some one.ids
under_header longest bytes one all facts begun states under some None is begun_with_it =
    let nothing = items_at_start longest _ under.place under.items under.splits.each is in
    absurd (some (sym under.has_facts ∙ ap all_facts nothing.1))
under_header longest bytes one all facts begun states under some (Some header) is begun_with_it =
    let known = first_header longest bytes (Some one) all states under.items under.place under.rest header under.splits is in
    let same : one ≡ header = cc in
    begun_with_it ∙ ap (λ (h : Header). Some h.ids) (sym same)

module _ {R : Type 0} (left : R → Option (List ℕ)) (health : R → Health) (pulls : R → ℕ) (origin : Origin) (was : R) (rest : List ℕ)
    (tells : left was ≡ Some rest) where
  pub size_of_part : (ids : IdSize) (millis : ℕ) (all given : List FactValue) (reader : FactReader R)
      → HasNoFault origin.limits.max_item (origin.front ++ rest) → length (origin.front ++ rest) ≤ origin.limits.max_bytes
      → IsPart (origin.front ++ rest) ids millis all → HasGivenFrom left health pulls origin was given reader
      → (fact : FactValue) (before behind : List FactValue) → given ≡ before ++ fact ∷ behind → begun_with reader.queue ≡ Some ids
  size_of_part ids millis all given reader sound within part has fact before behind is =
      let longest = origin.limits.max_item in
      let whole : List ℕ = origin.front ++ rest in
      let facts : List FactValue = origin.told ++ (given ++ has.queued) in
      let header = part_header longest whole ids millis all sound part in
      let under : StatesUnder longest whole facts (begun_with reader.queue) =
      subst (λ (b : List ℕ). StatesUnder longest b facts (begun_with reader.queue)) (take_all origin.limits.max_bytes whole within)
      (has.sized rest tells) in
      under_header longest whole header.0 all facts (begun_with reader.queue) header.1 under
      (not_empty origin.told given before behind has.queued fact is) (header_before under.place) refl under.has_size
      ∙ ap Some header.2
    where
      not_empty : (told given before behind queued : List FactValue) (fact : FactValue) → given ≡ before ++ fact ∷ behind
          → told ++ (given ++ queued) ≡ [] → ⊥
      not_empty (one ∷ told) given before behind queued fact is e = cc
      not_empty [] [] [] behind queued fact is e = cc
      not_empty [] [] (one ∷ before) behind queued fact is e = cc
      not_empty [] (one ∷ given) before behind queued fact is e = cc
