-- What a reader gives are the first facts that the bytes state, where the source tells them.
use Rattle.std.proofs.Common.{◌≡◌, ℕ, ◌-◌, Bool, List, [], ◌∷◌, ◌++◌, length, take, Option, Some, None, Result, Err, inl, inr}
use Rattle.std.proofs.Common.{refl, sym, ap, subst, ◌∙◌, append-nil, append_assoc, arith}
use Rattle.std.proofs.KnownBytes.{Consumes-trans}
use Rattle.std.proofs.lemmas.Bool.{cases_lt}
use Rattle.std.proofs.lemmas.List.{take-append-le, take_all}
use Rattle.std.specs.Io.KnownBytes.{Consumes, IsAtEnd}
use Rattle.hprof_devices.specs.declared.health.Health.{Health}
use Rattle.hprof_items.specs.declared.header.Header.{Header}
use Rattle.hprof_items.specs.FactValue.{FactValue}
use Rattle.hprof_stream.specs.declared.limits.Limits.{Limits}
use Rattle.hprof_stream.specs.declared.part_fault.PartFault.{PartFault}
use Rattle.hprof_stream.specs.declared.part_fault.PartFault.TheVariants as faults
use Rattle.hprof_stream.specs.declared.part_reader.PartReader.{PartReader}
use Rattle.hprof_stream.specs.declared.summary.PartSummary.{PartSummary}
use Rattle.hprof_stream.specs.Fault.{StatesSoFar}
use Rattle.hprof_stream.specs.Reader.{Feeds, HasRead, IsUnheld, RanOver, RanUnheld, header_of}
use Rattle.hprof_stream.specs.Run.{Run, Steps}
use Rattle.hprof_stream.proofs.FedRuns.{Pulled-consumes}
use Rattle.hprof_stream.proofs.PieceRoom.{taken_is}
use Rattle.hprof_facts.specs.FactReader.{EndsFrom, HasGivenFrom, IsReadTo, IsReading, Origin, comes_to_end, is_refused, reads_are_spent}
use Rattle.hprof_facts.specs.FactReader.{source_fails}
use Rattle.hprof_facts.specs.Listing as listing
use Rattle.hprof_facts.specs.declared.fact_reader.FactReader.{FactReader}
use Rattle.hprof_facts.proofs.Fronts.{StatesFirst, first_facts, first_more, read_first, states_first}

-- ---- a list that was run over facts has them behind its own

listed : (old facts new : List FactValue) → Steps {S = List FactValue} listing.begins listing.steps old facts new → new ≡ old ++ facts
listed old [] new same = sym same ∙ sym (append-nil old)
listed old (fact ∷ facts) new run =
    listed run.0 facts new run.2 ∙ ap (λ (l : List FactValue). l ++ facts) run.1 ∙ append_assoc old (fact ∷ []) facts

pub run_listed : (old : List FactValue) (header : Option Header) (facts new : List FactValue)
    → Run {S = List FactValue} listing.begins listing.steps old header facts new → new ≡ old ++ facts
run_listed old None facts new run = listed old facts new run
run_listed old (Some header) facts new run = listed run.0 facts new run.2 ∙ ap (λ (l : List FactValue). l ++ facts) run.1

-- ---- bytes that the source tells

-- those that came are the first of them
pub known_first : (before after : Option (List ℕ)) (rest came : List ℕ) → before ≡ Some rest → Consumes before after came
    → (more : List ℕ) × (rest ≡ came ++ more)
known_first None after rest came is gave = absurd cc
known_first (Some xs) None rest came is gave = absurd gave
known_first (Some xs) (Some ys) rest came is gave = let same : xs ≡ rest = cc in (ys, sym same ∙ gave)

-- at the end they are all
pub known_all : (before after : Option (List ℕ)) (rest came : List ℕ) → before ≡ Some rest → Consumes before after came → IsAtEnd after
    → rest ≡ came
known_all None after rest came is gave end = absurd cc
known_all (Some xs) None rest came is gave end = absurd gave
known_all (Some xs) (Some ys) rest came is gave end =
    let same : xs ≡ rest = cc in sym same ∙ gave ∙ ap (λ (l : List ℕ). came ++ l) end ∙ append-nil came

-- what is taken of bytes is the first of what is taken of more
pub taken_first : (limit : ℕ) (bytes more : List ℕ) → (extra : List ℕ) × (take limit (bytes ++ more) ≡ take limit bytes ++ extra)
taken_first limit bytes more =
    elim (cases_lt limit (length bytes)) [
      | inl longer ↦ ([], take-append-le limit bytes more (omega (arith, longer)) ∙ sym (append-nil (take limit bytes)))
      | inr within ↦ (
        take (limit - length bytes) more,
        taken_is limit bytes more within
            ∙ ap (λ (l : List ℕ). l ++ take (limit - length bytes) more) (sym (take_all limit bytes within)),
      )
    ]

pub taken_states : (longest limit : ℕ) (bytes more whole : List ℕ) (facts : List FactValue) → whole ≡ bytes ++ more
    → StatesFirst longest (take limit bytes) facts → StatesFirst longest (take limit whole) facts
taken_states longest limit bytes more whole facts same first =
    let all = taken_first limit bytes more in
    subst (λ (b : List ℕ). StatesFirst longest b facts) (sym (ap (take limit) same ∙ all.1))
    (first_more longest (take limit bytes) all.0 facts first)

-- ---- where a piece is refused

module _ (limits : Limits) (bytes : List ℕ) (told facts : List FactValue) (from to : PartReader) (piece : List ℕ)
    (read : HasRead limits bytes (told ++ facts) from) where
  -- those that were handed on before
  handed_first : (seen : List ℕ) (header : Option Header) (handed all : List FactValue) → all ≡ facts ++ handed
      → StatesFirst limits.max_item seen ((told ++ facts) ++ handed) → StatesFirst limits.max_item seen (told ++ all)
  handed_first seen header handed all same first =
      subst (λ (l : List FactValue). StatesFirst limits.max_item seen l) (append_assoc told facts handed
      ∙ ap (λ (l : List FactValue). told ++ l) (sym same)) first

  over_first : (seen : List ℕ) (all : List FactValue)
      → RanOver {S = List FactValue} listing.begins listing.steps limits.max_item seen (told ++ facts) (header_of from) (header_of to) facts
      all
      → StatesFirst limits.max_item seen (told ++ all)
  over_first seen all over =
      handed_first seen (header_of to) over.handed all (run_listed facts _ over.handed all over.ran)
      (states_first limits.max_item seen (header_of to) ((told ++ facts) ++ over.handed) over.states)

  read_taken : StatesFirst limits.max_item (take limits.max_bytes (bytes ++ piece)) (told ++ facts)
  read_taken =
      taken_states limits.max_item limits.max_bytes bytes piece (bytes ++ piece) (told ++ facts) refl
      (subst (λ (b : List ℕ). StatesFirst limits.max_item b (told ++ facts)) (sym (take_all limits.max_bytes bytes read.within))
      (read_first limits bytes (told ++ facts) from read))

  unheld_first : (all : List FactValue) (unheld : IsUnheld limits bytes piece)
      → RanUnheld {S = List FactValue} listing.begins listing.steps limits bytes piece unheld (told ++ facts) (header_of from) facts
      (header_of to) all
      → StatesFirst limits.max_item (take limits.max_bytes (bytes ++ piece)) (told ++ all)
  unheld_first all (inl whole) ran =
      subst (λ (b : List ℕ). StatesFirst limits.max_item b (told ++ all)) (sym (take_all limits.max_bytes (bytes ++ piece) whole.0.0))
      (over_first (bytes ++ piece) all ran)
  unheld_first all (inr held) ran =
      subst (λ (l : List FactValue). StatesFirst limits.max_item (take limits.max_bytes (bytes ++ piece)) (told ++ l)) ran.1 read_taken

  pub feeds_first : (fault : PartFault) (all : List FactValue)
      → Feeds {S = List FactValue} listing.begins listing.steps listing.refuses listing.failed limits bytes (told ++ facts) from piece facts
      (Err fault) to all
      → StatesFirst limits.max_item (take limits.max_bytes (bytes ++ piece)) (told ++ all)
  feeds_first fault all fed = by fault fed
    where
      by : (f : PartFault)
          → Feeds {S = List FactValue} listing.begins listing.steps listing.refuses listing.failed limits bytes (told ++ facts) from piece
          facts (Err f) to all → StatesFirst limits.max_item (take limits.max_bytes (bytes ++ piece)) (told ++ all)
      by faults.OutOfMemory lacks = unheld_first all lacks.1.0 lacks.1.1
      by (faults.Sink why) refused =
          let whole = refused.0 in
          let ran = refused.1.ran in
          handed_first (take limits.max_bytes (bytes ++ piece)) (header_of to) ran.handed all
          (refused.1.refused.0.1 ∙ run_listed facts _ ran.handed refused.1.mid ran.ran) (record {
            items = whole.items;
            place = whole.before;
            rest = whole.last.bytes ++ whole.back;
            splits = record { each = whole.each; parts = whole.parts };
            has_facts = ran.has_facts;
          })
      by f is_fault = over_first (take limits.max_bytes (bytes ++ piece)) all is_fault.1

-- ---- what a reader has read and given

module _ {R : Type 0} (left : R → Option (List ℕ)) (health : R → Health) (pulls : R → ℕ) (origin : Origin) (was : R) (rest : List ℕ)
    (tells : left was ≡ Some rest) where
  pub reading_first : (part : PartReader) (is : R) (allowed : ℕ) (facts : List FactValue)
      → IsReading left health pulls origin was part is allowed facts
      → StatesFirst origin.limits.max_item (take origin.limits.max_bytes (origin.front ++ rest)) (origin.told ++ facts)
  reading_first part is allowed facts reading =
      let bytes : List ℕ = origin.front ++ reading.came in
      let limits = origin.limits in
      let known = known_first (left was) (left is) rest reading.came tells
      (Pulled-consumes left pulls was reading.came reading.turns is reading.pulled) in
      let whole : origin.front ++ rest ≡ bytes ++ known.0 =
      ap (λ (l : List ℕ). origin.front ++ l) known.1 ∙ sym (append_assoc origin.front reading.came known.0) in
      taken_states limits.max_item limits.max_bytes bytes known.0 (origin.front ++ rest) (origin.told ++ facts) whole
      (subst (λ (b : List ℕ). StatesFirst limits.max_item b (origin.told ++ facts))
      (sym (take_all limits.max_bytes bytes reading.read.within))
      (read_first limits bytes (origin.told ++ facts) part reading.read))

  -- the bytes that came with a piece more
  pub known_with : (before is : R) (came : List ℕ) (turns : ℕ) (piece : List ℕ) → Consumes (left was) (left before) came
      → Consumes (left before) (left is) piece → (more : List ℕ) × (origin.front ++ rest ≡ ((origin.front ++ came) ++ piece) ++ more)
  known_with before is came turns piece first last =
      let known = known_first (left was) (left is) rest (came ++ piece) tells
      (Consumes-trans (left was) (left before) (left is) came piece first last) in (
        known.0,
        ap (λ (l : List ℕ). origin.front ++ l) known.1 ∙ sym (append_assoc origin.front (came ++ piece) known.0)
            ∙ ap (λ (l : List ℕ). l ++ known.0) (sym (append_assoc origin.front came piece)),
      )

  pub ends_first : (is : R) (result : Result PartSummary PartFault) (facts : List FactValue)
      → EndsFrom left health pulls origin was is result facts
      → StatesFirst origin.limits.max_item (take origin.limits.max_bytes (origin.front ++ rest)) (origin.told ++ facts)
  ends_first is result facts (comes_to_end {part = part} {before = before} {allowed = allowed} reading can last end well finishes) =
      reading_first part before allowed facts reading
  ends_first is result facts
      (is_refused {part = part} next {before = before} {allowed = allowed} {piece = piece} {fault = fault} {facts = given} reading can last
      some
      well feeds) =
      let limits = origin.limits in
      let bytes : List ℕ = origin.front ++ reading.came in
      let known = known_with before is reading.came reading.turns piece
      (Pulled-consumes left pulls was reading.came reading.turns before reading.pulled) last.gave in
      taken_states limits.max_item limits.max_bytes (bytes ++ piece) known.0 (origin.front ++ rest) (origin.told ++ facts) known.1
      (feeds_first limits bytes origin.told given part next piece reading.read fault facts feeds)
  ends_first is result facts (source_fails {part = part} {before = before} {allowed = allowed} reading can last ill) =
      reading_first part before allowed facts reading
  ends_first is result facts (reads_are_spent {part = part} reading well) = reading_first part is 0 facts reading

  read_to_first : (part : Option PartReader) (is : R) (allowed : ℕ) (outcome : Result PartSummary PartFault) (full : Bool)
      (facts : List FactValue) → IsReadTo left health pulls origin was part is allowed outcome full facts
      → StatesFirst origin.limits.max_item (take origin.limits.max_bytes (origin.front ++ rest)) (origin.told ++ facts)
  read_to_first None is allowed outcome full facts read = ends_first is outcome facts read
  read_to_first (Some part) is allowed outcome full facts read = reading_first part is allowed facts read.0

  -- they are the first facts of all that the bytes state
  pub given_first : (given : List FactValue) (reader : FactReader R) (header : Option Header) (all : List FactValue)
      → HasGivenFrom left health pulls origin was given reader
      → StatesSoFar origin.limits.max_item (take origin.limits.max_bytes (origin.front ++ rest)) header all
      → (more : List FactValue) × (all ≡ origin.told ++ (given ++ more))
  given_first given reader header all has states =
      let queued = has.queued in
      let behind = first_facts origin.limits.max_item (take origin.limits.max_bytes (origin.front ++ rest)) header all states
      (origin.told ++ (given ++ queued))
      (read_to_first reader.part reader.source reader.reads_left reader.outcome _ (given ++ queued) has.read) in (
        queued ++ behind.0,
        behind.1 ∙ append_assoc origin.told (given ++ queued) behind.0
            ∙ ap (λ (l : List FactValue). origin.told ++ l) (append_assoc given queued behind.0),
      )
