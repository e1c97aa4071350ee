-- Reading a part from a source: what the reader was fed so far, and what that comes to.
use Rattle.std.proofs.Common.{◌≡◌, ℕ, Bool, true, false, ◌+◌, ◌<◌, List, [], ◌++◌, length, take, Option, Some, None, Result, Ok, Err, inl}
use Rattle.std.proofs.Common.{inr, refl, sym, subst, append-nil}
use Rattle.std.proofs.KnownBytes.{Consumes-nil, Consumes-trans}
use Rattle.std.proofs.lemmas.Bool.{both_ways}
use Rattle.std.specs.Io.KnownBytes.{Consumes, IsAtEnd}
use Rattle.hprof_items.specs.declared.header.Header.{Header}
use Rattle.hprof_devices.specs.declared.health.Health.{Health}
use Rattle.hprof_devices.specs.declared.health.Health.TheVariants as healths
use Rattle.hprof_values.specs.declared.reason.Reason.TheVariants.{Truncated}
use Rattle.hprof_values.specs.declared.parse_stop.ParseStop.{ParseStop}
use Rattle.hprof_values.specs.declared.parse_stop.ParseStop.TheVariants.{Short, TooLong, Fault}
use Rattle.hprof_items.specs.FactValue.{FactValue}
use Rattle.hprof_stream.specs.declared.limits.Limits.{Limits}
use Rattle.hprof_stream.specs.declared.part_fault.PartFault.{PartFault}
use Rattle.hprof_stream.specs.declared.part_fault.PartFault.TheVariants as faults
use Rattle.hprof_stream.specs.declared.part_reader.PartReader.{PartReader}
use Rattle.hprof_stream.specs.declared.sink.SinkFault.{SinkFault}
use Rattle.hprof_stream.specs.declared.summary.PartSummary.{PartSummary}
use Rattle.hprof_stream.specs.Part.{all_bytes}
use Rattle.hprof_stream.specs.Item.{Found, none, item_at}
use Rattle.hprof_stream.specs.Fault.{fault_at, is_settled, IsFirstFault}
use Rattle.hprof_stream.specs.Run.{Run}
use Rattle.hprof_stream.specs.Feeding.{FeedsAll}
use Rattle.hprof_stream.specs.Reader.{header_of, HasRead, IsSettledFault, RanOver, Feeds, Finishes, IsPull, Pulled, none, once_more}
use Rattle.hprof_stream.specs.Reader.{PulledOut, CameLast, ReadsPart}
use Rattle.hprof_stream.proofs.Runs.{Run-then}
use Rattle.hprof_stream.proofs.FedRuns.{no_header_no_fact, RanOver-from, RanOver-read, RanOver-taken, RefusesLast-from}
use Rattle.hprof_stream.proofs.FedRuns.{IsAcceptedSoFar-read}
use Rattle.hprof_stream.proofs.FedRuns.{Pulled-consumes, CameLast-read}
use Rattle.hprof_stream.proofs.LastItems.{ends_behind}

-- the faults that judging what came gives
abbrev is_judgement : PartFault → Bool
is_judgement (faults.Malformed at reason) = true
is_judgement (faults.ItemTooLong at) = true
is_judgement faults.BytesExceeded = true
is_judgement other = false

-- the test that fails at an item gives no other
of_item : (offset : ℕ) (step : Result (Found × ℕ) ParseStop) (fault : PartFault) → fault_at offset step ≡ Some fault
    → is_judgement fault ≡ true
of_item offset (Ok (found, n)) fault e = absurd cc
of_item offset (Err Short) fault e = let same : faults.Malformed offset Truncated ≡ fault = cc in
    subst (λ (f : PartFault). is_judgement f ≡ true) same refl
of_item offset (Err TooLong) fault e = let same : faults.ItemTooLong offset ≡ fault = cc in
    subst (λ (f : PartFault). is_judgement f ≡ true) same refl
of_item offset (Err (Fault reason)) fault e = let same : faults.Malformed offset reason ≡ fault = cc in
    subst (λ (f : PartFault). is_judgement f ≡ true) same refl

settled_is_judged : (limits : Limits) (bytes : List ℕ) (fault : PartFault) → IsSettledFault limits bytes fault → is_judgement fault ≡ true
settled_is_judged limits bytes faults.BytesExceeded why = refl
settled_is_judged limits bytes fault why =
    let first = why.0 in
    of_item (length (all_bytes first.items)) (item_at limits.max_item first.place first.rest) fault first.fails

-- others are not settled faults of bytes
no_other : (limits : Limits) (bytes : List ℕ) (fault : PartFault) → is_judgement fault ≡ false → IsSettledFault limits bytes fault → ⊥
no_other limits bytes fault other why = both_ways (is_judgement fault) other (settled_is_judged limits bytes fault why)

module _ {R : Type 0} (left : R → Option (List ℕ)) (health : R → Health) (pulls : R → ℕ)
    {S : Type 0} (begins : S → Header → S → Type 0) (steps : S → FactValue → S → Type 0)
    (refuses : S → List FactValue → SinkFault → S → Type 0)
    (failed : S → Bool) where
  -- so many pulls gave the bytes that a reader was fed since it was new, with no fault
  pub record HasFed (limits : Limits) (turns : ℕ) (was is : R) (reader : PartReader) (old new : S) : Type 0 where
    pub came : List ℕ
    pub pulled : Pulled left pulls was came turns is
    pub facts : List FactValue
    pub read : HasRead limits came facts reader
    pub ran : Run begins steps old (header_of reader) facts new

  -- nothing came yet
  pub HasFed-none : (limits : Limits) (was : R) (reader : PartReader) (sink : S) → HasRead limits [] [] reader → header_of reader ≡ None
      → HasFed limits 0 was was reader sink sink
  HasFed-none limits was reader sink read bare = record {
    came = [];
    pulled = none;
    facts = [];
    read = read;
    ran = subst (λ (h : Option Header). Run begins steps sink h [] sink) (sym bare) refl;
  }

  -- a piece came, and was fed
  pub HasFed-more : (limits : Limits) (turns : ℕ) (was before is : R) (reader next : PartReader) (old mid new : S) (piece : List ℕ)
      (done : Unit {0}) → IsPull left pulls before piece is → 0 < length piece
      → ((bytes : List ℕ) (facts : List FactValue) → HasRead limits bytes facts reader
      → Feeds begins steps refuses failed limits bytes facts reader piece mid (Ok done) next new)
      → ((header : Header) → header_of reader ≡ Some header → header_of next ≡ Some header)
      → HasFed limits turns was before reader old mid → HasFed limits (turns + 1) was is next old new
  HasFed-more limits turns was before is reader next old mid new piece done last some feeds stays fed =
      let on = feeds fed.came fed.facts fed.read in
      record {
        came = fed.came ++ piece;
        pulled = once_more fed.pulled last some;
        facts = fed.facts ++ on.0;
        read = on.1;
        ran = Run-then begins steps old mid new None (header_of reader) (header_of next) fed.facts on.0
            (λ e. (refl, no_header_no_fact limits fed.came fed.facts reader fed.read e)) stays fed.ran on.2;
      }

  -- a settled fault of the bytes is what reading the part comes to
  ReadsPart-settled : (limits : Limits) (was : R) (came : List ℕ) (is : R) (header : Option Header) (old new : S) (fault : PartFault)
      → CameLast left pulls limits was came is → health is ≡ healths.Well → IsSettledFault limits came fault
      → RanOver begins steps limits.max_item (take limits.max_bytes came) [] None header old new
      → ReadsPart left health pulls begins steps refuses failed limits was came is old (Err fault) new
  ReadsPart-settled limits was came is header old new (faults.Malformed at Truncated) last well why over =
      let no : false ≡ true = why.1 in absurd cc
  ReadsPart-settled limits was came is header old new faults.OutOfMemory last well why over =
      absurd (no_other limits came faults.OutOfMemory refl why)
  ReadsPart-settled limits was came is header old new (faults.Sink fault) last well why over =
      absurd (no_other limits came (faults.Sink fault) refl why)
  ReadsPart-settled limits was came is header old new faults.Failed last well why over =
      absurd (no_other limits came faults.Failed refl why)
  ReadsPart-settled limits was came is header old new faults.Read last well why over =
      absurd (no_other limits came faults.Read refl why)
  ReadsPart-settled limits was came is header old new faults.ReadsExceeded last well why over =
      absurd (no_other limits came faults.ReadsExceeded refl why)
  ReadsPart-settled limits was came is header old new fault last well why over = ((last, well, why), (header, over))

  -- a fault of the last piece is what reading the part comes to
  ReadsPart-feeds : (limits : Limits) (bytes : List ℕ) (facts : List FactValue) (from to : PartReader) (piece : List ℕ) (count : ℕ)
      (was before is : R) (old mid new : S) (fault : PartFault) → health is ≡ healths.Well
      → HasRead limits bytes facts from → Run begins steps old (header_of from) facts mid
      → ((header : Header) → header_of from ≡ Some header → header_of to ≡ Some header)
      → Pulled left pulls was bytes count before → IsPull left pulls before piece is → 0 < length piece → count < limits.max_reads
      → Feeds begins steps refuses failed limits bytes facts from piece mid (Err fault) to new
      → ReadsPart left health pulls begins steps refuses failed limits was (bytes ++ piece) is old (Err fault) new
  unfolding CameLast-read RanOver-read
  ReadsPart-feeds limits bytes facts from to piece count was before is old mid new fault well read first stays pulled one some allowed fed =
      by fault fed
    where
      last : CameLast left pulls limits was (bytes ++ piece) is
      last = CameLast-read left pulls limits bytes facts from piece count was before is read pulled one some allowed

      bare : header_of from ≡ None → facts ≡ []
      bare = no_header_no_fact limits bytes facts from read

      by : (f : PartFault) → Feeds begins steps refuses failed limits bytes facts from piece mid (Err f) to new
          → ReadsPart left health pulls begins steps refuses failed limits was (bytes ++ piece) is old (Err f) new
      by faults.OutOfMemory lacks = (
        (well, inr (last, lacks.1.0)),
        record {
          told = header_of from;
          header = header_of to;
          mid = mid;
          over = RanOver-read begins steps limits bytes facts from old mid read first;
          lacks = lacks.1.1;
        },
      )
      by (faults.Sink why) refused = (
        (
          well,
          record {
            last = last;
            told = header_of to;
            whole = refused.0;
            behind = ends_behind begins steps limits bytes facts from piece (header_of to) mid refused.1.mid read refused.0
                refused.1.ran;
          },
        ),
        RefusesLast-from begins steps refuses failed refused.0 facts (header_of from) old mid new why first bare refused.1,
      )
      by f is_fault = ReadsPart-settled limits was (bytes ++ piece) is (header_of to) old new f last well is_fault.0
          (RanOver-from begins steps limits.max_item (take limits.max_bytes (bytes ++ piece)) facts (header_of from) (header_of to) old mid
          new first bare stays is_fault.1)

  -- what came and what feeding it came to
  abbrev pub CameOf : Limits → R → R → S → Result (Unit {0}) PartFault → PartReader → S → Type 0
  CameOf limits was is old result reader new =
      (came : List ℕ) × Consumes (left was) (left is) came × FeedsAll left health pulls begins steps refuses failed limits was came is old
      result reader new

  -- a piece came, and feeding it was refused
  pub HasFed-fault : (limits : Limits) (turns : ℕ) (was before is : R) (reader next : PartReader) (old mid new : S) (piece : List ℕ)
      (fault : PartFault) → IsPull left pulls before piece is → 0 < length piece
      → ((bytes : List ℕ) (facts : List FactValue) → HasRead limits bytes facts reader
      → Feeds begins steps refuses failed limits bytes facts reader piece mid (Err fault) next new)
      → ((header : Header) → header_of reader ≡ Some header → header_of next ≡ Some header) → health is ≡ healths.Well
      → HasFed limits turns was before reader old mid
      → turns < limits.max_reads → CameOf limits was is old (Err fault) next new
  HasFed-fault limits turns was before is reader next old mid new piece fault last some feeds stays well fed allowed = (
    fed.came ++ piece,
    Consumes-trans (left was) (left before) (left is) fed.came piece (Pulled-consumes left pulls was fed.came turns before fed.pulled)
        last.gave,
    ReadsPart-feeds limits fed.came fed.facts reader next piece turns was before is old mid new fault well fed.read fed.ran stays fed.pulled
        last some allowed (feeds fed.came fed.facts fed.read),
  )

  -- what came, and behind it a pull that gave nothing
  PulledOut-fed : (limits : Limits) (turns : ℕ) (was before is : R) (reader : PartReader) (old new : S) → IsPull left pulls before [] is
      → turns < limits.max_reads → (fed : HasFed limits turns was before reader old new)
      → PulledOut left pulls limits was fed.came is × Consumes (left was) (left is) fed.came
  PulledOut-fed limits turns was before is reader old new last allowed fed = (
    record { before = before; count = turns; pulled = fed.pulled; allowed = allowed; last = last },
    subst (Consumes (left was) (left is)) (append-nil fed.came) (Consumes-trans (left was) (left before) (left is) fed.came []
        (Pulled-consumes left pulls was fed.came turns before fed.pulled) last.gave),
  )

  -- nothing more came
  pub HasFed-end : (limits : Limits) (turns : ℕ) (was before is : R) (reader : PartReader) (old new : S) (done : Unit {0})
      → IsPull left pulls before [] is → IsAtEnd (left is)
      → health is ≡ healths.Well → HasFed limits turns was before reader old new → turns < limits.max_reads
      → CameOf limits was is old (Ok done) reader new
  HasFed-end limits turns was before is reader old new done last end well fed allowed =
      let out = PulledOut-fed limits turns was before is reader old new last allowed fed in
      (fed.came, out.1, (out.0, end, well, (fed.facts, fed.read, fed.ran)))

  -- what came is judged before the source's failure
  pub HasFed-failed : (limits : Limits) (turns : ℕ) (was before is : R) (reader : PartReader) (old new : S) → IsPull left pulls before [] is
      → health is ≡ healths.Failed
      → HasFed limits turns was before reader old new → turns < limits.max_reads → CameOf limits was is old (Err faults.Read) reader new
  HasFed-failed limits turns was before is reader old new last ill fed allowed =
      let out = PulledOut-fed limits turns was before is reader old new last allowed fed in (
        fed.came,
        out.1,
        (
          (out.0, ill, IsAcceptedSoFar-read limits fed.came fed.facts reader fed.read),
          (header_of reader, RanOver-taken begins steps limits fed.came fed.facts reader old new fed.read fed.ran),
        ),
      )

  -- what came is judged before there are too many reads
  pub HasFed-spent : (limits : Limits) (turns : ℕ) (was is : R) (reader : PartReader) (old new : S) → health is ≡ healths.Well
      → HasFed limits turns was is reader old new → turns ≡ limits.max_reads
      → CameOf limits was is old (Err faults.ReadsExceeded) reader new
  HasFed-spent limits turns was is reader old new well fed all = (
    fed.came,
    Pulled-consumes left pulls was fed.came turns is fed.pulled,
    (
      (
        subst (λ (n : ℕ). Pulled left pulls was fed.came n is) all fed.pulled,
        well,
        IsAcceptedSoFar-read limits fed.came fed.facts reader fed.read,
      ),
      (header_of reader, RanOver-taken begins steps limits fed.came fed.facts reader old new fed.read fed.ran),
    ),
  )

  -- the end of a part that came whole
  ReadsPart-whole : (limits : Limits) (was : R) (came : List ℕ) (is : R) (reader : PartReader) (facts : List FactValue) (old new : S)
      (summary : PartSummary) → PulledOut left pulls limits was came is → IsAtEnd (left is)
      → health is ≡ healths.Well → HasRead limits came facts reader → Run begins steps old (header_of reader) facts new
      → Finishes limits came facts (header_of reader) (Ok summary)
      → ReadsPart left health pulls begins steps refuses failed limits was came is old (Ok summary) new
  ReadsPart-whole limits was came is reader facts old new summary out end well read ran finished = (
    out,
    end,
    well,
    read.within,
    finished.0,
    finished.1,
    (
      facts,
      finished.2,
      subst
          (λ (h : Option Header). Run begins steps old h facts new) finished.3 ran,
    ),
  )

  -- the end of a part that did not come whole
  ReadsPart-cut : (limits : Limits) (was : R) (came : List ℕ) (is : R) (reader : PartReader) (facts : List FactValue) (old new : S)
      (fault : PartFault) → PulledOut left pulls limits was came is → IsAtEnd (left is)
      → health is ≡ healths.Well → HasRead limits came facts reader → Run begins steps old (header_of reader) facts new
      → IsFirstFault limits.max_item came fault → is_settled fault ≡ false
      → ReadsPart left health pulls begins steps refuses failed limits was came is old (Err fault) new
  ReadsPart-cut limits was came is reader facts old new (faults.Malformed at Truncated) out end well read ran first unsettled = (
    (out, end, well, read.within, first),
    (header_of reader, RanOver-taken begins steps limits came facts reader old new read ran),
  )
  ReadsPart-cut limits was came is reader facts old new fault out end well read ran first unsettled = absurd cc

  -- the end of a part
  pub ReadsPart-finished : (limits : Limits) (was : R) (came : List ℕ) (is : R) (reader : PartReader) (old new : S) (done : Unit {0})
      (result : Result PartSummary PartFault)
      → FeedsAll left health pulls begins steps refuses failed limits was came is old (Ok done) reader new
      → ((facts : List FactValue) → HasRead limits came facts reader → Finishes limits came facts (header_of reader) result)
      → ReadsPart left health pulls begins steps refuses failed limits was came is old result new
  ReadsPart-finished limits was came is reader old new done (Ok summary) fed finishes =
      ReadsPart-whole limits was came is reader fed.3.0 old new summary fed.0 fed.1 fed.2 fed.3.1 fed.3.2 (finishes fed.3.0 fed.3.1)
  ReadsPart-finished limits was came is reader old new done (Err fault) fed finishes =
      let why = finishes fed.3.0 fed.3.1 in
      ReadsPart-cut limits was came is reader fed.3.0 old new fault fed.0 fed.1 fed.2 fed.3.1 fed.3.2 why.0 why.1

  -- no memory for a piece
  pub ReadsPart-memory : (limits : Limits) (was : R) (sink : S) → health was ≡ healths.Well
      → (came : List ℕ) × Consumes (left was) (left was) came × ReadsPart left health pulls begins steps refuses failed limits was came was
      sink (Err faults.OutOfMemory) sink
  ReadsPart-memory limits was sink well = ([], Consumes-nil (left was), ((well, inl (refl, refl)), refl))
