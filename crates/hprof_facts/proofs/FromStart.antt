-- A reader from the first byte on ends as `read_part` does.
use Rattle.std.proofs.Common.{◌≡◌, ℕ, ◌-◌, ◌<◌, Bool, true, false, List, [], ◌++◌, length, take, Option, Some, None, Result, Ok, Err, inl}
use Rattle.std.proofs.Common.{inr}
use Rattle.std.proofs.Common.{refl, sym, subst, ◌∙◌, append-nil, arith}
use Rattle.std.proofs.KnownBytes.{Consumes-trans}
use Rattle.std.specs.Io.KnownBytes.{Consumes}
use Rattle.hprof_devices.specs.declared.health.Health.{Health}
use Rattle.hprof_devices.specs.declared.health.Health.TheVariants as healths
use Rattle.hprof_values.specs.declared.reason.Reason.TheVariants.{Truncated}
use Rattle.hprof_items.specs.declared.header.Header.{Header}
use Rattle.hprof_items.specs.FactValue.{FactValue}
use Rattle.hprof_stream.specs.declared.limits.Limits.{Limits}
use Rattle.hprof_stream.specs.declared.part_fault.PartFault.{PartFault}
use Rattle.hprof_stream.specs.declared.part_fault.PartFault.TheVariants as faults
use Rattle.hprof_stream.specs.declared.part_reader.PartReader.{PartReader}
use Rattle.hprof_stream.specs.declared.summary.PartSummary.{PartSummary}
use Rattle.hprof_stream.specs.Fault.{StatesSoFar}
use Rattle.hprof_stream.specs.Progress.{place_of}
use Rattle.hprof_stream.specs.Reader.{CameLast, Feeds, Finishes, HasRead, IsPull, IsSettledFault, IsUnheld, Pulled, RanOver, RanUnheld}
use Rattle.hprof_stream.specs.Reader.{ReadsPart, header_of}
use Rattle.hprof_stream.proofs.Faults.{states_once}
use Rattle.hprof_stream.proofs.FedRuns.{CameLast-read, Pulled-consumes, RanOver-from, RanOver-read, RefusesLast-from, StatesSoFar-read}
use Rattle.hprof_stream.proofs.FedRuns.{no_header_no_fact}
use Rattle.hprof_stream.proofs.ItemLists.{header_at_place, item_kept}
use Rattle.hprof_stream.proofs.LastItems.{ends_behind}
use Rattle.hprof_stream.proofs.Longer.{Splits-more}
use Rattle.hprof_stream.proofs.PieceRoom.{taken_is}
use Rattle.hprof_stream.proofs.Sources.{HasFed, HasFed-failed, HasFed-spent, ReadsPart-finished}
use Rattle.hprof_facts.specs.FactReader.{Ends, EndsFrom, IsReading, comes_to_end, is_refused, reads_are_spent, source_fails, start_of}
use Rattle.hprof_facts.specs.FactReader.{Advances, AdvancesFrom}
use Rattle.hprof_facts.specs.Listing as listing
use Rattle.hprof_facts.specs.declared.fact_reader.FactReader.{FactReader}
use Rattle.hprof_facts.proofs.Fronts.{first_header}
use Rattle.hprof_facts.proofs.Judged.{no_other}
use Rattle.hprof_facts.proofs.Listed.{run_lists}

-- ---- the header stays where a piece is refused

module _ (limits : Limits) (bytes : List ℕ) (facts : List FactValue) (from to : PartReader) (piece : List ℕ)
    (read : HasRead limits bytes facts from) where
  stays_over : (extra : List ℕ) (all : List FactValue) (header : Header)
      → StatesSoFar limits.max_item (bytes ++ extra) (header_of to) all
      → header_of from ≡ Some header → header_of to ≡ Some header
  stays_over extra all header states is =
      first_header limits.max_item (bytes ++ extra) (header_of to) all states read.items (place_of from.progress) (read.unfinished ++ extra)
      header
      (Splits-more limits.max_item bytes extra read.items (place_of from.progress) read.unfinished read.splits)
      (header_at_place (header_of from) from.progress.room ∙ is)

  stays_unheld : (old new : List FactValue) (header : Header) (unheld : IsUnheld limits bytes piece)
      → RanUnheld {S = List FactValue} listing.begins listing.steps limits bytes piece unheld facts (header_of from) old (header_of to) new
      → header_of from ≡ Some header → header_of to ≡ Some header
  stays_unheld old new header (inl all) ran is = stays_over piece (facts ++ ran.handed) header ran.states is
  stays_unheld old new header (inr held) ran is = ran.0 ∙ is

  stays : (old new : List FactValue) (fault : PartFault) (header : Header)
      → Feeds {S = List FactValue} listing.begins listing.steps listing.refuses listing.failed limits bytes facts from piece old (Err fault)
      to new
      → header_of from ≡ Some header → header_of to ≡ Some header
  stays old new fault header fed is = by fault fed
    where
      by : (f : PartFault)
          → Feeds {S = List FactValue} listing.begins listing.steps listing.refuses listing.failed limits bytes facts from piece old (Err f)
          to new → header_of to ≡ Some header
      by faults.OutOfMemory lacks = stays_unheld old new header lacks.1.0 lacks.1.1 is
      by (faults.Sink why) refused =
          let whole = refused.0 in
          sym whole.has_told
          ∙ item_kept limits.max_item header whole.before whole.next whole.last whole.item (refused.1.ran.stays header is)
      by f is_fault = stays_over (take (limits.max_bytes - length bytes) piece) (facts ++ is_fault.1.handed) header
          (subst (λ (b : List ℕ). StatesSoFar limits.max_item b (header_of to) (facts ++ is_fault.1.handed))
          (taken_is limits.max_bytes bytes piece read.within) is_fault.1.states) is

-- ---- a settled fault

module _ {R : Type 0} (left : R → Option (List ℕ)) (health : R → Health) (pulls : R → ℕ) where
  settled_ends : (limits : Limits) (was : R) (came : List ℕ) (is : R) (header : Option Header) (all : List FactValue) (fault : PartFault)
      → CameLast left pulls limits was came is → health is ≡ healths.Well → IsSettledFault limits came fault
      → RanOver {S = List FactValue} listing.begins listing.steps limits.max_item (take limits.max_bytes came) [] None header [] all
      → ReadsPart left health pulls {S = List FactValue} listing.begins listing.steps listing.refuses listing.failed limits was came is []
      (Err fault) all
  settled_ends limits was came is header all (faults.Malformed at Truncated) last well why over = let no : false ≡ true = why.1 in absurd cc
  settled_ends limits was came is header all faults.OutOfMemory last well why over =
      absurd (no_other limits came faults.OutOfMemory refl why)
  settled_ends limits was came is header all (faults.Sink fault) last well why over =
      absurd (no_other limits came (faults.Sink fault) refl why)
  settled_ends limits was came is header all faults.Failed last well why over =
      absurd (no_other limits came faults.Failed refl why)
  settled_ends limits was came is header all faults.Read last well why over =
      absurd (no_other limits came faults.Read refl why)
  settled_ends limits was came is header all faults.ReadsExceeded last well why over =
      absurd (no_other limits came faults.ReadsExceeded refl why)
  settled_ends limits was came is header all fault last well why over = ((last, well, why), (header, over))

  -- a piece was refused
  refused_ends : (limits : Limits) (was before is : R) (part next : PartReader) (allowed : ℕ) (piece : List ℕ) (fault : PartFault)
      (facts all : List FactValue) → (reading : IsReading left health pulls (start_of limits) was part before allowed facts) → 0 < allowed
      → IsPull left pulls before piece is → 0 < length piece → health is ≡ healths.Well
      → Feeds {S = List FactValue} listing.begins listing.steps listing.refuses listing.failed limits reading.came facts part piece facts
      (Err fault) next all
      → ReadsPart left health pulls {S = List FactValue} listing.begins listing.steps listing.refuses listing.failed limits was
      (reading.came ++ piece) is [] (Err fault) all
  unfolding CameLast-read RanOver-read
  refused_ends limits was before is part next allowed piece fault facts all reading can pull some well feeds = by fault feeds
    where
      bytes : List ℕ
      bytes = reading.came

      read : HasRead limits bytes facts part
      read = reading.read

      last : CameLast left pulls limits was (bytes ++ piece) is
      last =
          let spent = reading.spent in
          CameLast-read left pulls limits bytes facts part piece reading.turns was before is read reading.pulled pull some
          (omega (arith, spent, can))

      bare : header_of part ≡ None → facts ≡ []
      bare = no_header_no_fact limits bytes facts part read

      by : (f : PartFault)
          → Feeds {S = List FactValue} listing.begins listing.steps listing.refuses listing.failed limits bytes facts part piece facts (Err
          f)
          next all
          → ReadsPart left health pulls {S = List FactValue} listing.begins listing.steps listing.refuses listing.failed limits was
          (bytes ++ piece) is [] (Err f) all
      by faults.OutOfMemory lacks = (
        (well, inr (last, lacks.1.0)),
        record {
          told = header_of part;
          header = header_of next;
          mid = facts;
          over = RanOver-read {S = List FactValue} listing.begins listing.steps limits bytes facts part [] facts read
              (run_lists [] (header_of part) facts);
          lacks = lacks.1.1;
        },
      )
      by (faults.Sink why) refused = (
        (
          well,
          record {
            last = last;
            told = header_of next;
            whole = refused.0;
            behind = ends_behind {S = List FactValue} listing.begins listing.steps limits bytes facts part piece (header_of next) facts
                refused.1.mid read refused.0 refused.1.ran;
          },
        ),
        RefusesLast-from {S = List FactValue} listing.begins listing.steps listing.refuses listing.failed refused.0 facts (header_of part)
            []
            facts all why (run_lists [] (header_of part) facts) bare refused.1,
      )
      by f is_fault = settled_ends limits was (bytes ++ piece) is (header_of next) all f last well is_fault.0
          (RanOver-from {S = List FactValue} listing.begins listing.steps limits.max_item (take limits.max_bytes (bytes ++ piece)) facts
          (header_of part) (header_of next) [] facts all (run_lists [] (header_of part) facts) bare
          (λ header e. stays limits bytes facts part next piece read facts all fault header feeds e) is_fault.1)

  -- what the part came to is told of all that it states
  finishes_all : (limits : Limits) (bytes : List ℕ) (facts others : List FactValue) (part : PartReader) (result : Result PartSummary
      PartFault)
      → HasRead limits bytes facts part → HasRead limits bytes others part → Finishes limits bytes facts (header_of part) result
      → Finishes limits bytes others (header_of part) result
  finishes_all limits bytes facts others part result read read_too finishes =
      let same = (states_once limits.max_item bytes (header_of part) (header_of part) facts others
      (StatesSoFar-read limits bytes facts part read) (StatesSoFar-read limits bytes others part read_too)).1 in
      subst (λ (l : List FactValue). Finishes limits bytes l (header_of part) result) same finishes

  -- a list was fed what was read
  fed_of : (limits : Limits) (was is : R) (part : PartReader) (allowed : ℕ) (facts : List FactValue)
      → (reading : IsReading left health pulls (start_of limits) was part is allowed facts)
      → HasFed left health pulls {S = List FactValue} listing.begins listing.steps listing.refuses listing.failed limits reading.turns was
      is
      part [] facts
  fed_of limits was is part allowed facts reading = record {
    came = reading.came;
    pulled = reading.pulled;
    facts = facts;
    read = reading.read;
    ran = run_lists [] (header_of part) facts;
  }

  -- bytes came in pulls, and then none
  came_all : (was before is : R) (came : List ℕ) (turns : ℕ) → Pulled left pulls was came turns before → IsPull left pulls before [] is
      → Consumes (left was) (left is) came
  came_all was before is came turns pulled last =
      subst (Consumes (left was) (left is)) (append-nil came)
      (Consumes-trans (left was) (left before) (left is) came [] (Pulled-consumes left pulls was came turns before pulled) last.gave)

  pub from_start : (limits : Limits) (was is : R) (result : Result PartSummary PartFault) (facts : List FactValue)
      → EndsFrom left health pulls (start_of limits) was is result facts → Ends left health pulls limits was is result facts
  from_start limits was is result facts
      (comes_to_end {part = part} {before = before} {allowed = allowed} reading can last end well finishes) =
      let came = reading.came in
      let spent = reading.spent in (
        came,
        came_all was before is came reading.turns reading.pulled last,
        ReadsPart-finished left health pulls {S = List FactValue} listing.begins listing.steps listing.refuses listing.failed limits was
            came
            is part [] facts tt result (
              record {
                before = before;
                count = reading.turns;
                pulled = reading.pulled;
                allowed = omega (arith, spent, can);
                last = last;
              },
              end,
              well,
              (facts, reading.read, run_lists [] (header_of part) facts),
            ) (λ others read. finishes_all limits came facts others part result reading.read read finishes),
      )
  from_start limits was is result facts
      (is_refused {part = part} next {before = before} {allowed = allowed} {piece = piece} {fault = fault} {facts = given} reading can last
      some
      well feeds) = (
        reading.came ++ piece,
        Consumes-trans (left was) (left before) (left is) reading.came piece
            (Pulled-consumes left pulls was reading.came reading.turns before reading.pulled) last.gave,
        refused_ends limits was before is part next allowed piece fault given facts reading can last some well feeds,
      )
  from_start limits was is result facts (source_fails {part = part} {before = before} {allowed = allowed} reading can last ill) =
      let spent = reading.spent in
      HasFed-failed left health pulls {S = List FactValue} listing.begins listing.steps listing.refuses listing.failed limits reading.turns
      was
      before is part [] facts last ill (fed_of limits was before part allowed facts reading) (omega (arith, spent, can))
  from_start limits was is result facts (reads_are_spent {part = part} reading well) =
      let spent = reading.spent in
      HasFed-spent left health pulls {S = List FactValue} listing.begins listing.steps listing.refuses listing.failed limits reading.turns
      was
      is part [] facts well (fed_of limits was is part 0 facts reading) (omega (arith, spent))

  pub advances_from_start : (limits : Limits) (was : R) (given : List FactValue) (result : Result Bool PartFault) (reader : FactReader R)
      → AdvancesFrom left health pulls (start_of limits) was given result reader
      → Advances left health pulls limits was given result reader
  advances_from_start limits was given (Ok true) reader it = it
  advances_from_start limits was given (Ok false) reader it =
      (it.0, (it.2.0, it.2.1, from_start limits was reader.source (Ok it.2.0) given it.2.2))
  advances_from_start limits was given (Err fault) reader it = (it.0, from_start limits was reader.source (Err fault) given it.2)
