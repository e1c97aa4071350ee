-- What a reader has read once it went on over more bytes.
use Rattle.std.proofs.Common.{◌≡◌, ℕ, ◌+◌, ◌-◌, ◌<◌, ◌≤◌, Bool, true, false, cond, ◌||◌, List, [], ◌++◌, length}
use Rattle.std.proofs.Common.{Option, Some, None, refl, sym, ap, subst, ◌∙◌, arith, Result, Ok, Err, is_ok}
use Rattle.std.proofs.lemmas.List.{length-append}
use Rattle.std.proofs.lemmas.List.Folds.{list_any-append}
use Rattle.std.specs.List.{list_any}
use Rattle.hprof_items.specs.declared.header.Header.{Header}
use Rattle.hprof_items.specs.declared.head.Head.{Head}
use Rattle.hprof_values.specs.declared.parse_stop.ParseStop.{ParseStop}
use Rattle.hprof_values.specs.declared.parse_stop.ParseStop.TheVariants.{Short, TooLong, Fault}
use Rattle.hprof_items.specs.FactValue.{FactValue}
use Rattle.hprof_items.specs.Head.{kind_of}
use Rattle.hprof_items.specs.Reading.{head_at}
use Rattle.hprof_stream.specs.declared.limits.Limits.{Limits}
use Rattle.hprof_stream.specs.declared.part_reader.PartReader.{PartReader}
use Rattle.hprof_stream.specs.declared.progress.Progress.{Progress}
use Rattle.hprof_stream.specs.declared.rest.Rest.{Rest}
use Rattle.hprof_stream.specs.Part.{Stated, all_bytes, all_facts, is_end}
use Rattle.hprof_stream.specs.Item.{Place, Start, Between, Within, header_before, IsItem, AreItems, none, records_begun, is_skipped_kind}
use Rattle.hprof_stream.specs.Item.{is_skipped_head, held_of, item_at}
use Rattle.hprof_stream.specs.Fault.{Splits}
use Rattle.hprof_stream.specs.Progress.{start_of, place_of}
use Rattle.hprof_stream.specs.Rest.{passing_by, passing_of, IsWalkOf, IsRest, passed_len, rest_len}
use Rattle.hprof_stream.specs.Run.{Run, became}
use Rattle.hprof_stream.specs.Reader.{header_of, has_failed, HasRead, IsWithinItem, BeginsWhole, RanOver, RanUpTo}
use Rattle.hprof_stream.specs.Walking.{Walks}
use Rattle.hprof_stream.proofs.Faults.{Splits-then}
use Rattle.hprof_stream.proofs.ItemLists.{AreItems-then, all_bytes-then, all_facts-then, records_begun-then, header_at_place, items_headers}
use Rattle.hprof_stream.proofs.Rests.{IsRest-none}
use Rattle.hprof_stream.proofs.Walks.{Walks-at}

-- ---- what is kept of an item

-- of one that is passed over what was seen is counted, of another its bytes are held
kept_if : (test : Bool) (left : ℕ) (bytes : List ℕ)
    → passed_len (cond test (Some (record { seen = length bytes; left = left })) None) + length (cond test [] bytes) ≡ length bytes
kept_if true left bytes = omega arith
kept_if false left bytes = omega arith

kept_behind : (step : Result (Head × ℕ) ParseStop) (bytes : List ℕ)
    → passed_len (passing_by step (length bytes)) + length (cond (is_skipped_head step) [] bytes) ≡ length bytes
kept_behind (Ok (head, n)) bytes = kept_if (is_skipped_kind (kind_of head.tag)) (9 + head.length - length bytes) bytes
kept_behind (Err stop) bytes = omega arith

kept_at : (longest : ℕ) (place : Place) (bytes : List ℕ) → passed_len (passing_of longest place bytes) + length
    (held_of longest place bytes) ≡ length bytes
kept_at longest Start bytes = omega arith
kept_at longest (Between header) bytes = kept_behind (head_at header.ids longest bytes) bytes
kept_at longest (Within header room) bytes = omega arith

-- what is kept stands for as many bytes as are there
pub rest_len_is : (longest : ℕ) (place : Place) (bytes : List ℕ) (rest : Rest) → IsRest longest place bytes rest
    → rest_len rest ≡ length bytes
rest_len_is longest place bytes rest is = omega (arith, ap passed_len is.passing, ap length is.held, kept_at longest place bytes)

-- ---- a reader that was fed nothing

no_items_at : (longest : ℕ) (place : Place) → Start ≡ place → (are : AreItems longest Start [] place) × (records_begun are ≡ 0)
no_items_at longest place e = subst (λ (p : Place). (are : AreItems longest Start [] p) × (records_begun are ≡ 0)) e (none, refl)

pub HasRead-none : (limits : Limits) (reader : PartReader) → reader.progress ≡ start_of limits → reader.rest.held.items ≡ []
    → reader.rest.passing ≡ None → has_failed reader ≡ false → HasRead limits [] [] reader
HasRead-none limits reader begun held passing sound =
    let place : Place = place_of reader.progress in
    let at : Start ≡ place = ap place_of (sym begun) in
    let are = no_items_at limits.max_item place at in
    record {
      has_limits = ap (λ (p : Progress). p.limits) begun;
      sound = sound;
      within = omega arith;
      items = [];
      unfinished = [];
      splits = record { each = are.0; parts = refl };
      keeps = IsRest-none limits.max_item place reader.rest held passing
          (subst (λ (p : Place). IsWalkOf limits.max_item p [] reader.rest.walk) at tt);
      has_facts = refl;
      offset = ap (λ (p : Progress). p.at) begun;
      record_count = ap (λ (p : Progress). p.records) begun ∙ sym are.1;
      fact_count = ap (λ (p : Progress). p.facts) begun;
      has_end = ap (λ (p : Progress). p.ended) begun;
    }

-- what it keeps, under its own limits
pub front_kept : (limits : Limits) (bytes : List ℕ) (facts : List FactValue) (reader : PartReader)
    → (read : HasRead limits bytes facts reader)
    → IsRest reader.progress.limits.max_item (place_of reader.progress) read.unfinished reader.rest
front_kept limits bytes facts reader read =
    subst (λ (l : Limits). IsRest l.max_item (place_of reader.progress) read.unfinished reader.rest) (sym read.has_limits) read.keeps

-- ---- what a walk read

module _ {S : Type 0} (begins : S → Header → S → Type 0) (steps : S → FactValue → S → Type 0) where
  -- a header that was read stays
  pub walk_kept : (longest : ℕ) (from to : Progress) (bytes rest : List ℕ) (old new : S) (header : Header)
      → Walks begins steps longest from bytes old to rest new → from.header ≡ Some header → to.header ≡ Some header
  walk_kept longest from to bytes rest old new header walk e =
      (items_headers longest from.header to.header from.room to.room walk.items walk.each).1 header e

  -- what was read of the bytes: whole items, and a rest; these facts were handed to the sink before
  pub record HasWalked (limits : Limits) (bytes : List ℕ) (facts : List FactValue) (before : Option Header) (to : Progress)
      (rest : List ℕ) (old new : S) : Type 0 where
    pub has_limits : to.limits ≡ limits
    pub items : List Stated
    pub splits : Splits limits.max_item bytes items (place_of to) rest
    pub handed : List FactValue
    pub has_facts : all_facts items ≡ facts ++ handed
    pub offset : to.at ≡ length (all_bytes items)
    pub record_count : to.records ≡ records_begun splits.each
    pub fact_count : to.facts ≡ length (facts ++ handed)
    pub has_end : to.ended ≡ list_any is_end items
    pub ran : Run begins steps old (became before to.header) handed new

  -- a walk from where a reader stands
  pub HasWalked-on : (limits : Limits) (bytes taken : List ℕ) (facts : List FactValue) (from : PartReader) (to : Progress) (rest : List ℕ)
      (old new : S) → (read : HasRead limits bytes facts from)
      → Walks begins steps from.progress.limits.max_item from.progress (read.unfinished ++ taken) old to rest new
      → HasWalked limits (bytes ++ taken) facts (header_of from) to rest old new
  HasWalked-on limits bytes taken facts from to rest old new read walk =
      let longest : ℕ = limits.max_item in
      let here : Place = place_of from.progress in
      let there : Place = place_of to in
      let on : Walks begins steps longest from.progress (read.unfinished ++ taken) old to rest new =
      Walks-at begins steps from.progress.limits.max_item longest from.progress to (read.unfinished ++ taken) rest old new
      (ap (λ (l : Limits). l.max_item) read.has_limits) walk in
      let whole = Splits-then longest bytes taken read.items on.items here there read.unfinished rest read.splits on.each on.parts in
      let sum : to.records ≡ records_begun read.splits.each + records_begun on.each = omega (arith, on.record_count, read.record_count) in
      record {
        has_limits = on.same_limits ∙ read.has_limits;
        items = read.items ++ on.items;
        splits = record {
          each = AreItems-then longest Start here there read.items on.items read.splits.each on.each;
          parts = whole.parts;
        };
        handed = all_facts on.items;
        has_facts = all_facts-then read.items on.items ∙ ap (λ (f : List FactValue). f ++ all_facts on.items) read.has_facts;
        offset = omega (
          arith,
          on.offset,
          read.offset,
          ap length (all_bytes-then read.items on.items),
          length-append (all_bytes read.items) (all_bytes on.items),
        );
        record_count = sum ∙ sym (records_begun-then longest Start here there read.items on.items read.splits.each on.each);
        fact_count = omega (arith, on.fact_count, read.fact_count, length-append facts (all_facts on.items));
        has_end = on.has_end ∙ ap (λ (b : Bool). b || list_any is_end on.items) read.has_end
            ∙ sym (list_any-append is_end read.items on.items);
        ran = on.ran;
      }

  module _ (limits : Limits) (bytes : List ℕ) (facts : List FactValue) (before : Option Header) (to : Progress) (rest : List ℕ)
      (old new : S)
      (walked : HasWalked limits bytes facts before to rest old new) where
    -- a rest that does not begin with an item: the sink ran over all that is whole
    pub RanOver-walked : is_ok (item_at limits.max_item (place_of to) rest) ≡ false
        → RanOver begins steps limits.max_item bytes facts before to.header old new
    RanOver-walked stops = record {
      handed = walked.handed;
      states = record {
        items = walked.items;
        place = place_of to;
        rest = rest;
        splits = walked.splits;
        ends = stops;
        has_header = header_at_place to.header to.room;
        has_facts = walked.has_facts;
      };
      ran = walked.ran;
    }

    -- the rest begins with a whole item: the sink ran over the items in front of it
    unfoldable pub RanUpTo-walked : (one : Stated) (next : Place) (back : List ℕ) (told : Option Header)
        → ((header : Header) → before ≡ Some header → to.header ≡ Some header) → IsItem limits.max_item (place_of to) one next
        → header_before next ≡ told → (one.facts ≡ [] → to.header ≡ None) → rest ≡ one.bytes ++ back
        → (whole : BeginsWhole limits.max_item bytes told) × RanUpTo begins steps whole facts before old new
    RanUpTo-walked one next back told stays is tells given parts =
        let at : header_before (place_of to) ≡ to.header = header_at_place to.header to.room in (
          record {
            items = walked.items;
            before = place_of to;
            last = one;
            next = next;
            back = back;
            each = walked.splits.each;
            item = is;
            has_told = tells;
            given = λ bare. at ∙ given bare;
            parts = walked.splits.parts ∙ ap (λ (r : List ℕ). all_bytes walked.items ++ r) parts;
          },
          record {
            stays = λ header e. at ∙ stays header e;
            handed = walked.handed;
            has_facts = walked.has_facts;
            ran = subst (λ (h : Option Header). Run begins steps old (became before h) walked.handed new) (sym at) walked.ran;
          },
        )

    -- the rest needs more bytes, and some of it is to be held
    pub IsWithinItem-walked : item_at limits.max_item (place_of to) rest ≡ Err Short
        → 0 < length (held_of limits.max_item (place_of to) rest) → IsWithinItem limits.max_item bytes
    IsWithinItem-walked short some = (
      length (held_of limits.max_item (place_of to) rest),
      record { items = walked.items; place = place_of to; rest = rest; splits = walked.splits; short = short; has_count = refl },
      some,
    )

  -- a reader that stands there and keeps the rest
  pub HasRead-walked : (limits : Limits) (bytes : List ℕ) (facts : List FactValue) (before : Option Header) (rest : List ℕ) (old new : S)
      (reader : PartReader) (walked : HasWalked limits bytes facts before reader.progress rest old new)
      → has_failed reader ≡ false → IsRest limits.max_item (place_of reader.progress) rest reader.rest → length bytes ≤ limits.max_bytes
      → HasRead limits bytes (facts ++ walked.handed) reader
  HasRead-walked limits bytes facts before rest old new reader walked sound keeps within = record {
    has_limits = walked.has_limits;
    sound = sound;
    within = within;
    items = walked.items;
    unfinished = rest;
    splits = walked.splits;
    keeps = keeps;
    has_facts = walked.has_facts;
    offset = walked.offset;
    record_count = walked.record_count;
    fact_count = walked.fact_count;
    has_end = walked.has_end;
  }

-- a reader that holds some bytes
pub IsWithinItem-read : (limits : Limits) (bytes : List ℕ) (facts : List FactValue) (reader : PartReader)
    → (read : HasRead limits bytes facts reader)
    → 0 < length (held_of limits.max_item (place_of reader.progress) read.unfinished) → IsWithinItem limits.max_item bytes
IsWithinItem-read limits bytes facts reader read some = (
  length (held_of limits.max_item (place_of reader.progress) read.unfinished),
  record {
    items = read.items;
    place = place_of reader.progress;
    rest = read.unfinished;
    splits = read.splits;
    short = read.keeps.short;
    has_count = refl;
  },
  some,
)
