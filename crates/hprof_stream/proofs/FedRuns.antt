-- What a reader knows of the facts, and the runs of its sink from where reading began.
use Rattle.std.proofs.Common.{◌≡◌, ℕ, Bool, ◌<◌, List, [], ◌++◌, length, take, Option, Some, None}
use Rattle.std.proofs.Common.{refl, sym, ap, subst, ◌∙◌, arith, is_ok}
use Rattle.std.proofs.KnownBytes.{Consumes-nil, Consumes-trans}
use Rattle.std.proofs.lemmas.List.{length-append, nil_from_length, take_all}
use Rattle.std.specs.Io.KnownBytes.{Consumes}
use Rattle.hprof_items.specs.declared.header.Header.{Header}
use Rattle.hprof_items.specs.FactValue.{FactValue}
use Rattle.hprof_stream.specs.declared.limits.Limits.{Limits}
use Rattle.hprof_stream.specs.declared.part_reader.PartReader.{PartReader}
use Rattle.hprof_stream.specs.declared.sink.SinkFault.{SinkFault}
use Rattle.hprof_stream.specs.Part.{Stated, all_bytes, all_facts}
use Rattle.hprof_stream.specs.Item.{Place, Start, header_before, AreItems, none, more}
use Rattle.hprof_stream.specs.Fault.{StatesSoFar}
use Rattle.hprof_stream.specs.Progress.{place_of}
use Rattle.hprof_stream.specs.Run.{Run}
use Rattle.hprof_stream.specs.Reader.{header_of, HasRead, BeginsWhole, IsAcceptedSoFar, RanOver, RanUpTo, RefusesLast, IsPull, Pulled, none}
use Rattle.hprof_stream.specs.Reader.{once_more, CameLast}
use Rattle.hprof_stream.proofs.Runs.{Run-then}
use Rattle.hprof_stream.proofs.Faults.{short_unsettled}
use Rattle.hprof_stream.proofs.ItemLists.{items_headers, items_size, header_at_place, header_behind}

-- ---- what a reader knows of the facts

-- where no header was read no fact was
pub no_header_no_fact : (limits : Limits) (bytes : List ℕ) (facts : List FactValue) (reader : PartReader)
    → HasRead limits bytes facts reader
    → header_of reader ≡ None → facts ≡ []
no_header_no_fact limits bytes facts reader read bare =
    sym read.has_facts
    ∙ ap all_facts ((items_headers limits.max_item None (header_of reader) 0 reader.progress.room read.items read.splits.each).0 bare).1

-- no items lead nowhere else
no_items_stay : (longest : ℕ) (from to : Place) (items : List Stated) → AreItems longest from items to → items ≡ [] → from ≡ to
no_items_stay longest from to items none e = refl
no_items_stay longest from to items (more first behind) e = absurd cc

-- of no bytes no header was read
pub no_bytes_no_header : (limits : Limits) (facts : List FactValue) (reader : PartReader) → HasRead limits [] facts reader
    → header_of reader ≡ None
no_bytes_no_header limits facts reader read =
    let place : Place = place_of reader.progress in
    let size = items_size limits.max_item Start place read.items read.splits.each in
    let nothing : read.items ≡ [] = nil_from_length read.items (omega (
      arith,
      size.0,
      ap length read.splits.parts,
      length-append (all_bytes read.items) read.unfinished,
    )) in
    sym (header_behind None (header_of reader) 0 reader.progress.room
    (no_items_stay limits.max_item Start place read.items read.splits.each nothing))

-- what a reader has read is what the bytes state so far
pub StatesSoFar-read : (limits : Limits) (bytes : List ℕ) (facts : List FactValue) (reader : PartReader) → HasRead limits bytes facts reader
    → StatesSoFar limits.max_item bytes (header_of reader) facts
StatesSoFar-read limits bytes facts reader read = record {
  items = read.items;
  place = place_of reader.progress;
  rest = read.unfinished;
  splits = read.splits;
  ends = ap is_ok read.keeps.short;
  has_header = header_at_place (header_of reader) reader.progress.room;
  has_facts = read.has_facts;
}

-- ---- runs from where reading began

module _ {S : Type 0} (begins : S → Header → S → Type 0) (steps : S → FactValue → S → Type 0) where
  -- the sink ran before, and then over more
  pub RanOver-from : (longest : ℕ) (bytes : List ℕ) (facts : List FactValue) (before after : Option Header) (old mid new : S)
      → Run begins steps old before facts mid → (before ≡ None → facts ≡ [])
      → ((header : Header) → before ≡ Some header → after ≡ Some header) → RanOver begins steps longest bytes facts before after mid new
      → RanOver begins steps longest bytes [] None after old new
  RanOver-from longest bytes facts before after old mid new first bare stays over = record {
    handed = facts ++ over.handed;
    states = over.states;
    ran = Run-then begins steps old mid new None before after facts over.handed (λ e. (refl, bare e)) stays first over.ran;
  }

  -- the same, up to an item that the sink was then given
  pub RanUpTo-from : {longest : ℕ} {bytes : List ℕ} {told : Option Header} (whole : BeginsWhole longest bytes told) (facts : List FactValue)
      (before : Option Header) (old mid new : S) → Run begins steps old before facts mid → (before ≡ None → facts ≡ [])
      → RanUpTo begins steps whole facts before mid new → RanUpTo begins steps whole [] None old new
  RanUpTo-from whole facts before old mid new first bare up = record {
    stays = λ header e. absurd cc;
    handed = facts ++ up.handed;
    has_facts = up.has_facts;
    ran = Run-then begins steps old mid new None before (header_before whole.before) facts up.handed (λ e. (refl, bare e)) up.stays first
        up.ran;
  }

  -- what a reader has read, the sink ran over
  unfoldable pub RanOver-read : (limits : Limits) (bytes : List ℕ) (facts : List FactValue) (reader : PartReader) (old new : S)
      → HasRead limits bytes facts reader → Run begins steps old (header_of reader) facts new
      → RanOver begins steps limits.max_item bytes [] None (header_of reader) old new
  RanOver-read limits bytes facts reader old new read ran = record {
    handed = facts;
    states = StatesSoFar-read limits bytes facts reader read;
    ran = ran;
  }

  -- the same, over as many bytes as may be taken, which are all
  pub RanOver-taken : (limits : Limits) (bytes : List ℕ) (facts : List FactValue) (reader : PartReader) (old new : S)
      → HasRead limits bytes facts reader → Run begins steps old (header_of reader) facts new
      → RanOver begins steps limits.max_item (take limits.max_bytes bytes) [] None (header_of reader) old new
  RanOver-taken limits bytes facts reader old new read ran =
      subst (λ (b : List ℕ). RanOver begins steps limits.max_item b [] None (header_of reader) old new)
      (sym (take_all limits.max_bytes bytes read.within)) (RanOver-read limits bytes facts reader old new read ran)

-- in what a reader has read nothing is wrong
pub IsAcceptedSoFar-read : (limits : Limits) (bytes : List ℕ) (facts : List FactValue) (reader : PartReader)
    → HasRead limits bytes facts reader → IsAcceptedSoFar limits bytes
IsAcceptedSoFar-read limits bytes facts reader read = (
  read.within,
  short_unsettled limits.max_item bytes read.items (place_of reader.progress) read.unfinished read.splits read.keeps.short,
)

module _ {S : Type 0} (begins : S → Header → S → Type 0) (steps : S → FactValue → S → Type 0) (refuses : S → List FactValue → SinkFault
    → S → Type 0)
    (failed : S → Bool) where
  -- an item that the sink refused, from where reading began
  pub RefusesLast-from : {longest : ℕ} {bytes : List ℕ} {told : Option Header} (whole : BeginsWhole longest bytes told)
      (facts : List FactValue)
      (before : Option Header) (old mid new : S) (fault : SinkFault) → Run begins steps old before facts mid → (before ≡ None → facts ≡ [])
      → RefusesLast begins steps refuses failed whole facts before mid fault new
      → RefusesLast begins steps refuses failed whole [] None old fault new
  RefusesLast-from whole facts before old mid new fault first bare last = record {
    mid = last.mid;
    ran = RanUpTo-from begins steps whole facts before old mid last.mid first bare last.ran;
    refused = last.refused;
  }

module _ {R : Type 0} (left : R → Option (List ℕ)) (pulls : R → ℕ) where
  -- the bytes that pulls gave were taken from what was left
  pub Pulled-consumes : (was : R) (came : List ℕ) (count : ℕ) (is : R) → Pulled left pulls was came count is
      → Consumes (left was) (left is) came
  Pulled-consumes was came count is none = Consumes-nil (left was)
  Pulled-consumes was came count is (once_more {came = before} {piece = piece} {mid = mid} pulled last some) =
      Consumes-trans (left was) (left mid) (left is) before piece (Pulled-consumes was before _ mid pulled) last.gave

  -- what a reader has read came before a last piece
  unfoldable pub CameLast-read : (limits : Limits) (bytes : List ℕ) (facts : List FactValue) (reader : PartReader) (piece : List ℕ)
      (count : ℕ)
      (was before is : R) → HasRead limits bytes facts reader
      → Pulled left pulls was bytes count before → IsPull left pulls before piece is → 0 < length piece → count < limits.max_reads
      → CameLast left pulls limits was (bytes ++ piece) is
  CameLast-read limits bytes facts reader piece count was before is read pulled last some allowed = record {
    before = before;
    front = bytes;
    piece = piece;
    count = count;
    parts = refl;
    pulled = pulled;
    allowed = allowed;
    last = last;
    some = some;
    accepted = IsAcceptedSoFar-read limits bytes facts reader read;
  }
