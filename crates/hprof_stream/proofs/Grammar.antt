-- Items from the first byte on, up to where a part may end, are a header and records: the head of a heap dump and the
-- sub-records behind it are one record.
use Rattle.std.proofs.Common.{◌≡◌, ℕ, zero, suc, ◌+◌, ◌-◌, ◌^◌, ◌<◌, ◌≤◌, Bool, true, false, ◌||◌, List, [], ◌∷◌, ◌++◌, length, Option}
use Rattle.std.proofs.Common.{Some, refl, sym, ap, subst, ◌∙◌, append_assoc, append-nil, arith}
use Rattle.std.proofs.lemmas.List.{length-append}
use Rattle.std.specs.Prelude.{◌==◌, slice_index}
use Rattle.std.specs.List.{flat_map, list_any, AllByRecursion}
use Rattle.hprof_values.specs.declared.ids.IdSize.{IdSize}
use Rattle.hprof_items.specs.declared.header.Header.{Header}
use Rattle.hprof_items.specs.FactValue.{FactValue}
use Rattle.hprof_items.specs.Header.{header_bytes, IsMillis}
use Rattle.hprof_items.specs.Head.{head_bytes, is_dump_tag}
use Rattle.hprof_items.specs.Spelling.{longest_body}
use Rattle.hprof_items.specs.SubRecord.{dump_bytes}
use Rattle.hprof_items.proofs.WalksMore.{byte_more}
use Rattle.hprof_stream.specs.Record.{IsSubFact, IsRecord, states, ends, dumps, skips}
use Rattle.hprof_stream.specs.Part.{Stated, all_bytes, all_facts, is_end, IsWritten, IsPart}
use Rattle.hprof_stream.specs.Item.{Place, Start, Between, Within, header_before, place_in, may_end, IsItem, is_header, is_fact}
use Rattle.hprof_stream.specs.Item.{is_dump_end, is_dump, is_sub, is_skipped, AreItems, none, more, begun_at, records_begun}
use Rattle.hprof_stream.specs.Fault.{HasNoFault}
use Rattle.hprof_stream.proofs.SubFacts.{sub_no_end, sub_fits}
use Rattle.hprof_stream.proofs.Lengths.{header_no_end}

-- ---- what items at a place are

-- the bytes are so many records behind that header, which is the last, and state these facts
pub record AreRecords (header : Header) (last : Option Header) (bytes : List ℕ) (facts : List FactValue) (count : ℕ)
    (ended : Bool) : Type 0 where
  pub records : List Stated
  pub each : AllByRecursion (λ one. IsRecord header.ids one.bytes one.facts) records
  pub kept : last ≡ Some header
  pub has_bytes : bytes ≡ all_bytes records
  pub has_facts : facts ≡ all_facts records
  pub has_count : count ≡ length records
  pub has_end : ended ≡ list_any is_end records

-- the bytes are sub-records that fill the room that a heap dump record has left, and then records
pub record FillRoom (header : Header) (room : ℕ) (last : Option Header) (bytes : List ℕ) (facts : List FactValue) (count : ℕ)
    (ended : Bool) : Type 0 where
  pub subs : List FactValue
  pub each : AllByRecursion (IsSubFact header.ids) subs
  pub fills : length (flat_map (dump_bytes header.ids) subs) ≡ room
  pub behind : List ℕ
  pub others : List FactValue
  pub rest : AreRecords header last behind others count ended
  pub has_bytes : bytes ≡ flat_map (dump_bytes header.ids) subs ++ behind
  pub has_facts : facts ≡ subs ++ others

-- the bytes are a header, and then records
pub record AreWhole (last : Option Header) (bytes : List ℕ) (facts : List FactValue) (count : ℕ) (ended : Bool) : Type 0 where
  pub header : Header
  pub is_millis : IsMillis header.millis
  pub behind : List ℕ
  pub rest : AreRecords header last behind facts count ended
  pub has_bytes : bytes ≡ header_bytes header ++ behind

-- by the place
abbrev pub AreAt : Place → Option Header → List ℕ → List FactValue → ℕ → Bool → Type 0
AreAt Start last bytes facts count ended = AreWhole last bytes facts count ended
AreAt (Between header) last bytes facts count ended = AreRecords header last bytes facts count ended
AreAt (Within header room) last bytes facts count ended = FillRoom header room last bytes facts count ended

-- records, said in other words
same_records : (header : Header) (last : Option Header) (bytes raw : List ℕ) (facts others : List FactValue) (count number : ℕ)
    (ended over : Bool)
    → bytes ≡ raw → facts ≡ others → count ≡ number → ended ≡ over → AreRecords header last bytes facts count ended
    → AreRecords header last raw others number over
same_records header last bytes raw facts others count number ended over b f c e are = record {
  records = are.records;
  each = are.each;
  kept = are.kept;
  has_bytes = sym b ∙ are.has_bytes;
  has_facts = sym f ∙ are.has_facts;
  has_count = sym c ∙ are.has_count;
  has_end = sym e ∙ are.has_end;
}

-- one record, and then more
add_record : (header : Header) (last : Option Header) (one : Stated) (bytes : List ℕ) (facts : List FactValue) (count : ℕ) (ended : Bool)
    → IsRecord header.ids one.bytes one.facts → AreRecords header last bytes facts count ended
    → AreRecords header last (one.bytes ++ bytes) (one.facts ++ facts) (1 + count) (is_end one || ended)
add_record header last one bytes facts count ended is are = record {
  records = one ∷ are.records;
  each = (is, are.each);
  kept = are.kept;
  has_bytes = ap (λ (b : List ℕ). one.bytes ++ b) are.has_bytes;
  has_facts = ap (λ (f : List FactValue). one.facts ++ f) are.has_facts;
  has_count = omega (arith, are.has_count);
  has_end = ap (λ (b : Bool). is_end one || b) are.has_end;
}

-- what fills the room behind the head of a heap dump, or behind a sub-record
filling : (header : Header) (room : ℕ) (last : Option Header) (bytes : List ℕ) (facts : List FactValue) (count : ℕ) (ended : Bool)
    → AreAt (place_in header room) last bytes facts count ended → FillRoom header room last bytes facts count ended
filling header zero last bytes facts count ended are =
    record { subs = []; each = tt; fills = refl; behind = bytes; others = facts; rest = are; has_bytes = refl; has_facts = refl }
filling header (suc room) last bytes facts count ended are = are

-- the item is the head of a heap dump of that length
record IsDumpHead (one : Stated) (tag time len : ℕ) : Type 0 where
  is_dump : is_dump_tag tag ≡ true
  is_time : time < 256 ^ 4
  short : len ≤ longest_body
  spelled : one.bytes ≡ head_bytes tag time len
  facts : one.facts ≡ []

-- the head of a heap dump, and what fills it
add_dump : (header : Header) (last : Option Header) (one : Stated) (tag time len : ℕ) (bytes : List ℕ) (facts : List FactValue) (count : ℕ)
    (ended : Bool)
    → IsDumpHead one tag time len → FillRoom header len last bytes facts count ended
    → AreRecords header last (one.bytes ++ bytes) (one.facts ++ facts) (1 + count) (is_end one || ended)
add_dump header last one tag time len bytes facts count ended head fill =
    let raw : List ℕ = flat_map (dump_bytes header.ids) fill.subs in
    let dump : Stated = record { bytes = one.bytes ++ raw; facts = fill.subs } in
    let is : IsRecord header.ids dump.bytes dump.facts = dumps (record {
      tag = tag;
      is_dump = head.is_dump;
      time = time;
      is_time = head.is_time;
      each = fill.each;
      short = omega (arith, fill.fills, head.short);
      spelled = ap (λ (b : List ℕ). b ++ raw) (head.spelled ∙ ap (head_bytes tag time) (sym fill.fills));
    }) in
    let some : 0 + 1 ≤ length one.bytes = omega (arith, ap length head.spelled) in
    let first : is_end dump ≡ is_end one = ap (λ (b : ℕ). b == 0x2c) (byte_more one.bytes raw 0 some) in
    same_records header last (dump.bytes ++ fill.behind) (one.bytes ++ bytes) (dump.facts ++ fill.others) (one.facts ++ facts) (1 + count)
    (1 + count) (is_end dump || ended) (is_end one || ended)
    (append_assoc one.bytes raw fill.behind ∙ ap (λ (b : List ℕ). one.bytes ++ b) (sym fill.has_bytes))
    (sym fill.has_facts ∙ ap (λ (f : List FactValue). f ++ facts) (sym head.facts)) refl (ap (λ (b : Bool). b || ended) first)
    (add_record header last dump fill.behind fill.others count ended is fill.rest)

-- a sub-record, and what fills the room behind it
add_sub : (header : Header) (room : ℕ) (last : Option Header) (one : Stated) (fact : FactValue) (bytes : List ℕ) (facts : List FactValue)
    (count : ℕ) (ended : Bool)
    → IsSubFact header.ids fact → one.bytes ≡ dump_bytes header.ids fact → length one.bytes ≤ room → one.facts ≡ fact ∷ []
    → FillRoom header (room - length one.bytes) last bytes facts count ended
    → FillRoom header room last (one.bytes ++ bytes) (one.facts ++ facts) (0 + count) (is_end one || ended)
add_sub header room last one fact bytes facts count ended is spelled within stated fill =
    let raw : List ℕ = flat_map (dump_bytes header.ids) fill.subs in
    let front : List ℕ = dump_bytes header.ids fact in
    let no_end : is_end one ≡ false =
    ap (λ (b : List ℕ). slice_index b 0 == 0x2c) spelled ∙ sub_no_end header.ids fact (sub_fits header.ids fact is).0 in
    record {
      subs = fact ∷ fill.subs;
      each = (is, fill.each);
      fills = omega (arith, length-append front raw, ap length spelled, within, fill.fills);
      behind = fill.behind;
      others = fill.others;
      rest = same_records header last fill.behind fill.behind fill.others fill.others count (0 + count) ended
          (is_end one || ended) refl refl (omega arith)
          (ap (λ (b : Bool). b || ended) (sym no_end)) fill.rest;
      has_bytes = ap (λ (b : List ℕ). b ++ bytes) spelled ∙ ap (λ (b : List ℕ). front ++ b) fill.has_bytes
          ∙ sym (append_assoc front raw fill.behind);
      has_facts = ap (λ (f : List FactValue). f ++ facts) stated ∙ ap (λ (f : List FactValue). fact ∷ f) fill.has_facts;
    }

-- an item, and what is behind it
add_item : (longest : ℕ) (from : Place) (one : Stated) (mid : Place) (last : Option Header) (bytes : List ℕ) (facts : List FactValue)
    (count : ℕ) (ended : Bool) → IsItem longest from one mid
    → AreAt mid last bytes facts count ended → AreAt from last (one.bytes ++ bytes) (one.facts ++ facts) (begun_at from + count)
    (is_end one || ended)
add_item longest from one mid last bytes facts count ended (is_header {header = header} fits spelled stated) are =
    let no_end : is_end one ≡ false = ap (λ (b : List ℕ). slice_index b 0 == 0x2c) spelled ∙ header_no_end header in
    record {
      header = header;
      is_millis = fits;
      behind = bytes;
      rest = same_records header last bytes bytes facts (one.facts ++ facts) count (0 + count) ended (is_end one || ended) refl
          (ap (λ (f : List FactValue). f ++ facts) (sym stated)) (omega arith) (ap (λ (b : Bool). b || ended) (sym no_end)) are;
      has_bytes = ap (λ (b : List ℕ). b ++ bytes) spelled;
    }
add_item longest from one mid last bytes facts count ended (is_fact {header = header} is short stated) are =
    add_record header last one bytes facts count ended (subst (IsRecord header.ids one.bytes) (sym stated) (states is)) are
add_item longest from one mid last bytes facts count ended (is_dump_end {header = header} is stated) are =
    add_record header last one bytes facts count ended (subst (IsRecord header.ids one.bytes) (sym stated) (ends is)) are
add_item longest from one mid last bytes facts count ended
    (is_dump {header = header} {tag = tag} {time = time} {len = len} is is_time short spelled stated) are =
    add_dump header last one tag time len bytes facts count ended
    (record { is_dump = is; is_time = is_time; short = short; spelled = spelled; facts = stated })
    (filling header len last bytes facts count ended are)
add_item longest from one mid last bytes facts count ended
    (is_sub {header = header} {room = room} {fact = fact} is spelled in_room in_longest stated) are =
    add_sub header room last one fact bytes facts count ended is spelled in_room stated
    (filling header (room - length one.bytes) last bytes facts count ended are)
add_item longest from one mid last bytes facts count ended (is_skipped {header = header} is stated) are =
    add_record header last one bytes facts count ended (subst (IsRecord header.ids one.bytes) (sym stated) (skips is)) are

-- nothing is left where a part may end
at_end : (place : Place) → may_end place ≡ true → AreAt place (header_before place) [] [] 0 false
at_end Start e = absurd cc
at_end (Between header) e =
    record { records = []; each = tt; kept = refl; has_bytes = refl; has_facts = refl; has_count = refl; has_end = refl }
at_end (Within header room) e = absurd cc

-- items up to where a part may end
pub items_at : (longest : ℕ) (from to : Place) (items : List Stated) → may_end to ≡ true → (are : AreItems longest from items to)
    → AreAt from (header_before to) (all_bytes items) (all_facts items) (records_begun are) (list_any is_end items)
items_at longest from to items e none = at_end to e
items_at longest from to items e (more {mid = mid} {one = one} {items = behind} first next) =
    add_item longest from one mid (header_before to) (all_bytes behind) (all_facts behind) (records_begun next)
    (list_any is_end behind) first (items_at longest mid to behind e next)

-- items from the first byte on, up to where a part may end, are written as a header and records
pub record IsSpelled (longest : ℕ) (to : Place) (items : List Stated) (are : AreItems longest Start items to) : Type 0 where
  pub header : Header
  pub records : List Stated
  pub written : IsWritten (all_bytes items) header records
  pub kept : header_before to ≡ Some header
  pub has_facts : all_facts items ≡ all_facts records
  pub has_count : records_begun are ≡ length records
  pub has_end : list_any is_end items ≡ list_any is_end records

pub items_spelled : (longest : ℕ) (to : Place) (items : List Stated) → may_end to ≡ true → (are : AreItems longest Start items to)
    → IsSpelled longest to items are
items_spelled longest to items e are =
    let whole = items_at longest Start to items e are in
    record {
      header = whole.header;
      records = whole.rest.records;
      written = record {
        is_millis = whole.is_millis;
        each = whole.rest.each;
        spelled = whole.has_bytes
            ∙ ap (λ (b : List ℕ). header_bytes whole.header ++ b) whole.rest.has_bytes;
      };
      kept = whole.rest.kept;
      has_facts = whole.rest.has_facts;
      has_count = whole.rest.has_count;
      has_end = whole.rest.has_end;
    }

-- what has no fault is a part
pub sound_part : (longest : ℕ) (bytes : List ℕ) → HasNoFault longest bytes
    → (ids : IdSize) × (millis : ℕ) × (facts : List FactValue) × IsPart bytes ids millis facts
sound_part longest bytes sound =
    let is = items_spelled longest sound.place sound.items sound.at_end sound.splits.each in
    let whole : all_bytes sound.items ≡ bytes = sym (append-nil (all_bytes sound.items)) ∙ sym sound.splits.parts in (
      is.header.ids,
      is.header.millis,
      all_facts is.records,
      record {
        header = is.header;
        records = is.records;
        written = subst (λ (b : List ℕ). IsWritten b is.header is.records) whole is.written;
        has_ids = refl;
        has_millis = refl;
        has_facts = refl;
      },
    )
