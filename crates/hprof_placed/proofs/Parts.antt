-- Reading a part into a sink that is told places: what the reader was fed so far, and what that comes to.
use Rattle.std.proofs.Common.{◌≡◌, ℕ, Bool, true, false, ◌+◌, ◌<◌, List, [], ◌∷◌, ◌++◌, length, take, Option, Some, None, Result, Ok}
use Rattle.std.proofs.Common.{Err, IfOk, inl, inr, refl, sym, subst, append-nil, arith}
use Rattle.std.proofs.KnownBytes.{Consumes-nil, Consumes-trans}
use Rattle.std.specs.Io.KnownBytes.{Consumes, IsAtEnd}
use Rattle.hprof_items.specs.declared.header.Header.{Header}
use Rattle.hprof_items.specs.FactValue.{FactValue}
use Rattle.hprof_values.specs.declared.ids.IdSize.{IdSize}
use Rattle.hprof_values.specs.declared.reason.Reason.TheVariants.{Truncated}
use Rattle.hprof_devices.specs.declared.health.Health.{Health}
use Rattle.hprof_devices.specs.declared.health.Health.TheVariants as healths
use Rattle.hprof_stream.specs.declared.limits.Limits.{Limits}
use Rattle.hprof_stream.specs.declared.part_fault.PartFault.{PartFault}
use Rattle.hprof_stream.specs.declared.part_fault.PartFault.TheVariants as faults
use Rattle.hprof_stream.specs.declared.part_reader.PartReader.{PartReader}
use Rattle.hprof_stream.specs.declared.sink.SinkFault.{SinkFault}
use Rattle.hprof_stream.specs.declared.summary.PartSummary.{PartSummary}
use Rattle.hprof_stream.specs.Run.{Run}
use Rattle.hprof_stream.specs.Walking.{IsBegun}
use Rattle.hprof_stream.specs.Reader.{CameLast, Feeds, Finishes, HasRead, IsPull, IsReady, IsSettledFault, Pulled, RanOver}
use Rattle.hprof_stream.specs.Reader.{header_of, none, once_more}
use Rattle.hprof_stream.proofs.FedRuns.{CameLast-read, IsAcceptedSoFar-read, Pulled-consumes, RanOver-from, RanOver-read, RanOver-taken}
use Rattle.hprof_stream.proofs.FedRuns.{RefusesLast-from, no_header_no_fact}
use Rattle.hprof_stream.proofs.LastItems.{ends_behind}
use Rattle.hprof_stream.proofs.Sources.{ReadsPart-finished}
use Rattle.hprof_facts.proofs.Judged.{no_other}
use Rattle.hprof_placed.specs.Handed.{Handed, handed_so, nothing_handed}
use Rattle.hprof_placed.specs.Handed as listing
use Rattle.hprof_placed.specs.Feeding.{FeedsPlaced}
use Rattle.hprof_placed.specs.Reading.{HoldsFront, HoldsHanded, ListsPart, ReadsPlaced, holds_behind}
use Rattle.hprof_placed.proofs.Handing.{hands_run}
use Rattle.hprof_placed.proofs.Pieces.{feeds_hands, holds_fed}

-- ---- a piece that was refused, for a sink that lists

module _ {R : Type 0} (left : R → Option (List ℕ)) (health : R → Health) (pulls : R → ℕ) where
  settled_ends : (limits : Limits) (was : R) (came : List ℕ) (is : R) (header : Option Header) (handed : Handed) (fault : PartFault)
      → CameLast left pulls limits was came is → health is ≡ healths.Well → IsSettledFault limits came fault
      → RanOver {S = Handed} listing.begins listing.steps limits.max_item (take limits.max_bytes came) [] None header nothing_handed handed
      → ListsPart left health pulls limits was came is (Err fault) handed
  settled_ends limits was came is header handed (faults.Malformed at Truncated) last well why over =
      let no : false ≡ true = why.1 in absurd cc
  settled_ends limits was came is header handed faults.OutOfMemory last well why over =
      absurd (no_other limits came faults.OutOfMemory refl why)
  settled_ends limits was came is header handed (faults.Sink fault) last well why over =
      absurd (no_other limits came (faults.Sink fault) refl why)
  settled_ends limits was came is header handed faults.Failed last well why over =
      absurd (no_other limits came faults.Failed refl why)
  settled_ends limits was came is header handed faults.Read last well why over =
      absurd (no_other limits came faults.Read refl why)
  settled_ends limits was came is header handed faults.ReadsExceeded last well why over =
      absurd (no_other limits came faults.ReadsExceeded refl why)
  settled_ends limits was came is header handed fault last well why over = ((last, well, why), (header, over))

  refused_ends : (limits : Limits) (bytes : List ℕ) (facts : List FactValue) (from to : PartReader) (piece : List ℕ) (count : ℕ)
      (was before is : R) (handed : Handed) (fault : PartFault) → health is ≡ healths.Well → HasRead limits bytes facts from
      → ((header : Header) → header_of from ≡ Some header → header_of to ≡ Some header)
      → Pulled left pulls was bytes count before → IsPull left pulls before piece is → 0 < length piece → count < limits.max_reads
      → Feeds {S = Handed} listing.begins listing.steps listing.refuses listing.failed limits bytes facts from piece
      (handed_so (header_of from) facts) (Err fault) to handed
      → ListsPart left health pulls limits was (bytes ++ piece) is (Err fault) handed
  unfolding CameLast-read RanOver-read
  refused_ends limits bytes facts from to piece count was before is handed fault well read stays pulled one some allowed fed = by fault fed
    where
      last : CameLast left pulls limits was (bytes ++ piece) is
      last = CameLast-read left pulls limits bytes facts from piece count was before is read pulled one some allowed

      bare : header_of from ≡ None → facts ≡ []
      bare = no_header_no_fact limits bytes facts from read

      first : Run {S = Handed} listing.begins listing.steps nothing_handed (header_of from) facts (handed_so (header_of from) facts)
      first = hands_run None (header_of from) [] facts (λ header e. absurd cc)

      by : (f : PartFault)
          → Feeds {S = Handed} listing.begins listing.steps listing.refuses listing.failed limits bytes facts from piece
          (handed_so (header_of from) facts) (Err f) to handed
          → ListsPart left health pulls limits was (bytes ++ piece) is (Err f) handed
      by faults.OutOfMemory lacks = (
        (well, inr (last, lacks.1.0)),
        record {
          told = header_of from;
          header = header_of to;
          mid = handed_so (header_of from) facts;
          over = RanOver-read {S = Handed} listing.begins listing.steps limits bytes facts from nothing_handed
              (handed_so (header_of from) facts) read first;
          lacks = lacks.1.1;
        },
      )
      by (faults.Sink why) refused = (
        (
          well,
          record {
            last = last;
            told = header_of to;
            whole = refused.0;
            behind = ends_behind {S = Handed} listing.begins listing.steps limits bytes facts from piece (header_of to)
                (handed_so (header_of from) facts) refused.1.mid read refused.0 refused.1.ran;
          },
        ),
        RefusesLast-from {S = Handed} listing.begins listing.steps listing.refuses listing.failed refused.0 facts (header_of from)
            nothing_handed (handed_so (header_of from) facts) handed why first bare refused.1,
      )
      by f is_fault = settled_ends limits was (bytes ++ piece) is (header_of to) handed f last well is_fault.0
          (RanOver-from {S = Handed} listing.begins listing.steps limits.max_item (take limits.max_bytes (bytes ++ piece)) facts
          (header_of from) (header_of to) nothing_handed (handed_so (header_of from) facts) handed first bare stays is_fault.1)

-- at the end of a part, a sink that was begun with its size has the size in the summary
pub begun_at_end : (limits : Limits) (came : List ℕ) (facts : List FactValue) (reader : PartReader) (begun : Option IdSize)
    (result : Result PartSummary PartFault) → HasRead limits came facts reader → IsReady reader begun
    → Finishes limits came facts (header_of reader) result → IfOk result (λ summary. begun ≡ Some summary.header.ids)
begun_at_end limits came facts reader begun (Ok summary) read ready finished =
    subst (λ (h : Option Header). IsBegun h begun) finished.3 (ready read.sound)
begun_at_end limits came facts reader begun (Err fault) read ready finished = tt

-- ---- reading into a sink that is told places

module _ {R : Type 0} (left : R → Option (List ℕ)) (health : R → Health) (pulls : R → ℕ)
    {S Earlier : Type 0} (holds : S → Limits → Earlier → Option Header → List ℕ → List FactValue → Type 0)
    (refuses : S → List FactValue → SinkFault → S → Type 0) (failed : S → Bool) where
  -- so many pulls gave the bytes that a reader was fed since it was new, with no fault; the sink holds what was handed to it
  pub record HasPlaced (limits : Limits) (turns : ℕ) (was is : R) (reader : PartReader) (old new : S) : Type 0 where
    pub came : List ℕ
    pub pulled : Pulled left pulls was came turns is
    pub facts : List FactValue
    pub read : HasRead limits came facts reader
    pub held : (earlier : Earlier) → holds old limits earlier None [] []
        → HoldsFront (holds_behind holds earlier) limits came (header_of reader) facts new

  -- nothing came yet
  pub placed_none : (limits : Limits) (was : R) (reader : PartReader) (sink : S) → HasRead limits [] [] reader → header_of reader ≡ None
      → HasPlaced limits 0 was was reader sink sink
  placed_none limits was reader sink read bare = record {
    came = [];
    pulled = none;
    facts = [];
    read = read;
    held = λ earlier held. record {
      before = [];
      piece = [];
      parts = refl;
      few = omega arith;
      held = subst (λ (h : Option Header). holds sink limits earlier h [] []) (sym bare) held;
    };
  }

  -- what came, and what feeding it came to
  abbrev pub CameOf : Limits → R → R → S → Result (Unit {0}) PartFault → PartReader → S → Type 0
  CameOf limits was is old result reader new =
      (came : List ℕ) × Consumes (left was) (left is) came × FeedsPlaced left health pulls holds refuses failed limits was came is old
      result reader new

  -- no memory for a piece
  pub reads_nothing : (limits : Limits) (was : R) (sink : S) → health was ≡ healths.Well
      → (came : List ℕ) × Consumes (left was) (left was) came × ReadsPlaced left health pulls holds refuses failed limits was came was
      sink (Err faults.OutOfMemory) sink
  reads_nothing limits was sink well = (
    [],
    Consumes-nil (left was),
    (
      nothing_handed,
      ((well, inl (refl, refl)), refl),
      λ earlier held. record { before = []; piece = []; parts = refl; few = omega arith; held = held },
    ),
  )

  -- what came, and behind it a pull that gave nothing
  came_all : (turns : ℕ) (was before is : R) (came : List ℕ) → Pulled left pulls was came turns before → IsPull left pulls before [] is
      → Consumes (left was) (left is) came
  came_all turns was before is came pulled last =
      subst (Consumes (left was) (left is)) (append-nil came)
      (Consumes-trans (left was) (left before) (left is) came [] (Pulled-consumes left pulls was came turns before pulled) last.gave)

  -- a list ran over what was read
  list_ran : (limits : Limits) (came : List ℕ) (facts : List FactValue) (reader : PartReader) → HasRead limits came facts reader
      → RanOver {S = Handed} listing.begins listing.steps limits.max_item (take limits.max_bytes came) [] None (header_of reader)
      nothing_handed (handed_so (header_of reader) facts)
  list_ran limits came facts reader read =
      RanOver-taken {S = Handed} listing.begins listing.steps limits came facts reader nothing_handed (handed_so (header_of reader) facts)
      read (hands_run None (header_of reader) [] facts (λ header e. absurd cc))

  -- nothing more came
  pub placed_end : (limits : Limits) (turns : ℕ) (was before is : R) (reader : PartReader) (old new : S) (done : Unit {0})
      → IsPull left pulls before [] is → IsAtEnd (left is) → health is ≡ healths.Well
      → HasPlaced limits turns was before reader old new → turns < limits.max_reads → CameOf limits was is old (Ok done) reader new
  placed_end limits turns was before is reader old new done last end well placed allowed = (
    placed.came,
    came_all turns was before is placed.came placed.pulled last,
    (
      record { before = before; count = turns; pulled = placed.pulled; allowed = allowed; last = last },
      end,
      well,
      (placed.facts, placed.read, placed.held),
    ),
  )

  -- what came is judged before the source's failure
  pub placed_failed : (limits : Limits) (turns : ℕ) (was before is : R) (reader : PartReader) (old new : S)
      → IsPull left pulls before [] is → health is ≡ healths.Failed
      → HasPlaced limits turns was before reader old new → turns < limits.max_reads → CameOf limits was is old (Err faults.Read) reader new
  placed_failed limits turns was before is reader old new last ill placed allowed = (
    placed.came,
    came_all turns was before is placed.came placed.pulled last,
    (
      handed_so (header_of reader) placed.facts,
      (
        (
          record { before = before; count = turns; pulled = placed.pulled; allowed = allowed; last = last },
          ill,
          IsAcceptedSoFar-read limits placed.came placed.facts reader placed.read,
        ),
        (header_of reader, list_ran limits placed.came placed.facts reader placed.read),
      ),
      placed.held,
    ),
  )

  -- what came is judged before there are too many reads
  pub placed_spent : (limits : Limits) (turns : ℕ) (was is : R) (reader : PartReader) (old new : S) → health is ≡ healths.Well
      → HasPlaced limits turns was is reader old new → turns ≡ limits.max_reads
      → CameOf limits was is old (Err faults.ReadsExceeded) reader new
  placed_spent limits turns was is reader old new well placed all = (
    placed.came,
    Pulled-consumes left pulls was placed.came turns is placed.pulled,
    (
      handed_so (header_of reader) placed.facts,
      (
        (
          subst (λ (n : ℕ). Pulled left pulls was placed.came n is) all placed.pulled,
          well,
          IsAcceptedSoFar-read limits placed.came placed.facts reader placed.read,
        ),
        (header_of reader, list_ran limits placed.came placed.facts reader placed.read),
      ),
      placed.held,
    ),
  )

  -- the end of a part
  pub reads_finished : (limits : Limits) (was : R) (came : List ℕ) (is : R) (reader : PartReader) (old new : S) (done : Unit {0})
      (result : Result PartSummary PartFault)
      → FeedsPlaced left health pulls holds refuses failed limits was came is old (Ok done) reader new
      → ((facts : List FactValue) → HasRead limits came facts reader → Finishes limits came facts (header_of reader) result)
      → ReadsPlaced left health pulls holds refuses failed limits was came is old result new
  reads_finished limits was came is reader old new done result fed finishes =
      let facts = fed.3.0 in
      let handed : Handed = handed_so (header_of reader) facts in
      let reads = ReadsPart-finished left health pulls {S = Handed} listing.begins listing.steps listing.refuses listing.failed limits was
      came is reader nothing_handed handed done result
      (fed.0, fed.1, fed.2, (facts, fed.3.1, hands_run None (header_of reader) [] facts (λ header e. absurd cc))) finishes in
      (handed, reads, λ earlier held. by earlier result (finishes facts fed.3.1) (fed.3.2 earlier held))
    where
      by : (earlier : Earlier) (r : Result PartSummary PartFault) → Finishes limits came fed.3.0 (header_of reader) r
          → HoldsFront (holds_behind holds earlier) limits came (header_of reader) fed.3.0 new
          → HoldsHanded (holds_behind holds earlier) refuses failed limits came r (handed_so (header_of reader) fed.3.0) new
      by earlier (Ok summary) finished front = front
      by earlier (Err (faults.Sink fault)) finished front = let no : true ≡ false = finished.1 in absurd cc
      by earlier (Err fault) finished front = front

  -- ---- a piece

  -- the sink was told a place of what was read, and holds all bytes that came before it
  abbrev pub Notes : Limits → PartReader → S → S → Type 0
  Notes limits reader mid noted = (earlier : Earlier) (header : Option Header) (bytes more : List ℕ) (facts : List FactValue)
      → HasRead limits (bytes ++ more) facts reader → holds mid limits earlier header bytes facts
      → holds noted limits earlier header (bytes ++ more) facts

  holds_noted : (limits : Limits) (turns : ℕ) (was is : R) (reader : PartReader) (old mid noted : S) → Notes limits reader mid noted
      → (placed : HasPlaced limits turns was is reader old mid) (earlier : Earlier) → holds old limits earlier None [] []
      → holds noted limits earlier (header_of reader) placed.came placed.facts
  holds_noted limits turns was is reader old mid noted notes placed earlier held =
      let front = placed.held earlier held in
      let parts = front.parts in
      subst (λ (b : List ℕ). holds noted limits earlier (header_of reader) b placed.facts) (sym parts)
      (notes earlier (header_of reader) front.before front.piece placed.facts
      (subst (λ (b : List ℕ). HasRead limits b placed.facts reader) parts placed.read) front.held)

  module _ (begins : S → Header → S → Type 0) (steps : S → FactValue → S → Type 0)
      (begins_part : (old : S) (header : Header) (new : S) → begins old header new → (limits : Limits) (earlier : Earlier)
      (bytes : List ℕ) → holds old limits earlier None bytes [] → holds new limits earlier (Some header) bytes [])
      (takes_fact : (old : S) (fact : FactValue) (new : S) → steps old fact new → (limits : Limits) (earlier : Earlier)
      (header : Header) (bytes : List ℕ) (facts : List FactValue) → holds old limits earlier (Some header) bytes facts
      → holds new limits earlier (Some header) bytes (facts ++ fact ∷ [])) where
    -- a piece came; the sink was told the place before it, and was handed what was whole then
    pub placed_more : (limits : Limits) (turns : ℕ) (was before is : R) (reader next : PartReader) (old mid noted new : S)
        (piece : List ℕ) (done : Unit {0}) → IsPull left pulls before piece is → 0 < length piece
        → Notes limits reader mid noted
        → ((bytes : List ℕ) (facts : List FactValue) → HasRead limits bytes facts reader
        → Feeds begins steps refuses failed limits bytes facts reader piece noted (Ok done) next new)
        → ((header : Header) → header_of reader ≡ Some header → header_of next ≡ Some header)
        → HasPlaced limits turns was before reader old mid → HasPlaced limits (turns + 1) was is next old new
    placed_more limits turns was before is reader next old mid noted new piece done last some notes feeds stays placed =
        let on = feeds placed.came placed.facts placed.read in
        record {
          came = placed.came ++ piece;
          pulled = once_more placed.pulled last some;
          facts = placed.facts ++ on.0;
          read = on.1;
          held = λ earlier held. record {
            before = placed.came;
            piece = piece;
            parts = refl;
            few = last.few;
            held = holds_fed begins steps refuses failed holds begins_part takes_fact limits placed.came placed.facts reader placed.read
                earlier next piece on.0 noted new on.1 stays on.2
                (holds_noted limits turns was before reader old mid noted notes placed earlier held);
          };
        }

    -- a piece came, and feeding it was refused
    pub placed_fault : (limits : Limits) (turns : ℕ) (was before is : R) (reader next : PartReader) (old mid noted new : S)
        (piece : List ℕ) (fault : PartFault) → IsPull left pulls before piece is → 0 < length piece
        → Notes limits reader mid noted
        → ((bytes : List ℕ) (facts : List FactValue) → HasRead limits bytes facts reader
        → Feeds begins steps refuses failed limits bytes facts reader piece noted (Err fault) next new)
        → ((header : Header) → header_of reader ≡ Some header → header_of next ≡ Some header) → health is ≡ healths.Well
        → HasPlaced limits turns was before reader old mid → turns < limits.max_reads → CameOf limits was is old (Err fault) next new
    placed_fault limits turns was before is reader next old mid noted new piece fault last some notes feeds stays well placed allowed =
        let it = feeds_hands begins steps refuses failed holds begins_part takes_fact limits placed.came placed.facts reader placed.read
        next piece last.few noted new stays fault (feeds placed.came placed.facts placed.read) in (
          placed.came ++ piece,
          Consumes-trans (left was) (left before) (left is) placed.came piece
              (Pulled-consumes left pulls was placed.came turns before placed.pulled) last.gave,
          (
            it.handed,
            refused_ends left health pulls limits placed.came placed.facts reader next piece turns was before is it.handed fault well
                placed.read stays placed.pulled last some allowed it.comes,
            λ earlier held. it.takes earlier (holds_noted limits turns was before reader old mid noted notes placed earlier held),
          ),
        )
