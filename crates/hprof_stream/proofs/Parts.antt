-- A part's header and records are items, when every length is taken, so a part has no fault, and states one thing.
use Rattle.std.proofs.Common.{◌≡◌, ℕ, zero, suc, ◌+◌, ◌-◌, ◌<◌, ◌≤◌, List, [], ◌∷◌, ◌++◌, length, Some, refl, sym, ap, subst, ◌∙◌}
use Rattle.std.proofs.Common.{append-nil, arith}
use Rattle.std.proofs.lemmas.List.{length-append}
use Rattle.std.specs.List.{flat_map, AllByRecursion}
use Rattle.hprof_values.specs.declared.ids.IdSize.{IdSize}
use Rattle.hprof_values.specs.RecordTag.{code_of_record}
use Rattle.hprof_items.specs.declared.header.Header.{Header}
use Rattle.hprof_items.specs.FactValue.{FactValue}
use Rattle.hprof_items.specs.Header.{header_bytes}
use Rattle.hprof_items.specs.Head.{head_bytes}
use Rattle.hprof_items.specs.RecordBody.{record_body}
use Rattle.hprof_items.specs.Spelling.{longest_body}
use Rattle.hprof_items.specs.SubRecord.{dump_bytes}
use Rattle.hprof_stream.specs.Record.{IsFactRecord, IsDumpRecord, IsSubFact, IsRecord, states, ends, dumps, skips}
use Rattle.hprof_stream.specs.Part.{Stated, all_bytes, all_facts, IsWritten, IsPart}
use Rattle.hprof_stream.specs.Item.{Place, Start, Between, Within, header_before, place_in, IsItem, is_header, is_fact, is_dump_end}
use Rattle.hprof_stream.specs.Item.{is_dump, is_sub, is_skipped, AreItems, none, more, begun_at, records_begun}
use Rattle.hprof_stream.specs.Fault.{HasNoFault}
use Rattle.hprof_stream.proofs.Lengths.{length-record}
use Rattle.hprof_stream.proofs.ItemLists.{AreItems-then, all_bytes-then, all_facts-then, records_begun-then}
use Rattle.hprof_stream.proofs.Faults.{items_once, none_stops}
use Rattle.hprof_stream.proofs.SubFacts.{sub_some, sub_fits, record_fits}

-- ---- items of some bytes

-- the bytes are items that lead from one place to the other, state these facts and begin so many records
pub record HasItems (longest : ℕ) (from to : Place) (bytes : List ℕ) (facts : List FactValue) (count : ℕ) : Type 0 where
  pub items : List Stated
  pub each : AreItems longest from items to
  pub has_bytes : all_bytes items ≡ bytes
  pub has_facts : all_facts items ≡ facts
  pub has_count : records_begun each ≡ count

-- no items
no_items : (longest : ℕ) (place : Place) → HasItems longest place place [] [] 0
no_items longest place = record { items = []; each = none; has_bytes = refl; has_facts = refl; has_count = refl }

-- an item, and then items
item_before : (longest : ℕ) (from : Place) (one : Stated) (mid to : Place) (bytes : List ℕ) (facts : List FactValue) (count : ℕ)
    → IsItem longest from one mid
    → HasItems longest mid to bytes facts count → HasItems longest from to (one.bytes ++ bytes) (one.facts ++ facts) (begun_at from + count)
item_before longest from one mid to bytes facts count is has = record {
  items = one ∷ has.items;
  each = more is has.each;
  has_bytes = ap (λ (b : List ℕ). one.bytes ++ b) has.has_bytes;
  has_facts = ap (λ (f : List FactValue). one.facts ++ f) has.has_facts;
  has_count = ap (λ (n : ℕ). begun_at from + n) has.has_count;
}

-- one item between records
one_item : (longest : ℕ) (header : Header) (one : Stated) → IsItem longest (Between header) one (Between header)
    → HasItems longest (Between header) (Between header) one.bytes one.facts 1
one_item longest header one is =
    let has = item_before longest (Between header) one (Between header) (Between header) [] [] 0 is (no_items longest (Between header)) in
    record {
      items = has.items;
      each = has.each;
      has_bytes = has.has_bytes ∙ append-nil one.bytes;
      has_facts = has.has_facts
          ∙ append-nil one.facts;
      has_count = has.has_count;
    }

-- items, and then more items
items_before : (longest : ℕ) (from mid to : Place) (bytes raw : List ℕ) (facts others : List FactValue) (count number : ℕ)
    → HasItems longest from mid bytes facts count
    → HasItems longest mid to raw others number → HasItems longest from to (bytes ++ raw) (facts ++ others) (count + number)
items_before longest from mid to bytes raw facts others count number first second = record {
  items = first.items ++ second.items;
  each = AreItems-then longest from mid to first.items second.items first.each second.each;
  has_bytes = all_bytes-then first.items second.items ∙ ap (λ (b : List ℕ). b ++ all_bytes second.items) first.has_bytes
      ∙ ap (λ (b : List ℕ). bytes ++ b) second.has_bytes;
  has_facts = all_facts-then first.items second.items ∙ ap (λ (f : List FactValue). f ++ all_facts second.items) first.has_facts
      ∙ ap (λ (f : List FactValue). facts ++ f) second.has_facts;
  has_count = omega (
    arith,
    records_begun-then longest from mid to first.items second.items first.each second.each,
    first.has_count,
    second.has_count,
  );
}

-- ---- the records of a part

-- where a byte or more is left of a heap dump
within_is : (header : Header) (room : ℕ) → 0 < room → place_in header room ≡ Within header room
within_is header zero some = absurd (omega arith)
within_is header (suc room) some = refl

-- sub-records fill their heap dump
sub_items : (header : Header) (facts : List FactValue) → AllByRecursion (IsSubFact header.ids) facts
    → length (flat_map (dump_bytes header.ids) facts) ≤ longest_body
    → HasItems longest_body (place_in header (length (flat_map (dump_bytes header.ids) facts))) (Between header)
    (flat_map (dump_bytes header.ids) facts) facts 0
sub_items header [] each short = no_items longest_body (Between header)
sub_items header (fact ∷ facts) each short =
    let front : List ℕ = dump_bytes header.ids fact in
    let raw : List ℕ = flat_map (dump_bytes header.ids) facts in
    let room : ℕ = length (front ++ raw) in
    let size : room ≡ length front + length raw = length-append front raw in
    let some : 0 < length front = sub_some header.ids fact (sub_fits header.ids fact each.0).0 in
    let one : Stated = record { bytes = front; facts = fact ∷ [] } in
    let left : room - length front ≡ length raw = omega (arith, size) in
    let is : IsItem longest_body (Within header room) one (place_in header (room - length front)) =
    is_sub each.0 refl (omega (arith, size)) (omega (arith, size, short)) refl in
    let item : IsItem longest_body (Within header room) one (place_in header (length raw)) =
    subst (λ (n : ℕ). IsItem longest_body (Within header room) one (place_in header n)) left is in
    let others = sub_items header facts each.1 (omega (arith, size, short)) in
    subst (λ (p : Place). HasItems longest_body p (Between header) (front ++ raw) (fact ∷ facts) 0)
    (sym (within_is header room (omega (arith, size, some))))
    (item_before longest_body (Within header room) one (place_in header (length raw)) (Between header) raw facts 0 item others)

-- a heap dump is its head and its sub-records
dump_items : (header : Header) (bytes : List ℕ) (facts : List FactValue) → IsDumpRecord header.ids bytes facts
    → HasItems longest_body (Between header) (Between header) bytes facts 1
dump_items header bytes facts is =
    let raw : List ℕ = flat_map (dump_bytes header.ids) facts in
    let one : Stated = record { bytes = head_bytes is.tag is.time (length raw); facts = [] } in
    let item : IsItem longest_body (Between header) one (place_in header (length raw)) = is_dump is.is_dump is.is_time is.short refl refl in
    subst (λ (b : List ℕ). HasItems longest_body (Between header) (Between header) b facts 1) (sym is.spelled)
    (item_before longest_body (Between header) one (place_in header (length raw)) (Between header) raw facts 0 item
    (sub_items header facts is.each is.short))

-- a record of a fact is no longer than the longest that a head can say
fact_fits : (ids : IdSize) (bytes : List ℕ) (fact : FactValue) → IsFactRecord ids bytes fact → length bytes ≤ 9 + longest_body
fact_fits ids bytes fact is =
    let fits = record_fits ids is.tag fact is.is is.fits in
    omega (arith, ap length is.spelled, length-record (code_of_record is.tag) is.time (record_body ids is.tag fact), fits.1)

-- any record
record_items : (header : Header) (bytes : List ℕ) (facts : List FactValue) → IsRecord header.ids bytes facts
    → HasItems longest_body (Between header) (Between header) bytes facts 1
record_items header bytes facts (states {fact = fact} is) =
    one_item longest_body header (record { bytes = bytes; facts = fact ∷ [] }) (is_fact is (fact_fits header.ids bytes fact is) refl)
record_items header bytes facts (ends is) = one_item longest_body header (record { bytes = bytes; facts = [] }) (is_dump_end is refl)
record_items header bytes facts (dumps is) = dump_items header bytes facts is
record_items header bytes facts (skips is) = one_item longest_body header (record { bytes = bytes; facts = [] }) (is_skipped is refl)

-- records, one after the other
records_items : (header : Header) (records : List Stated) → AllByRecursion (λ one. IsRecord header.ids one.bytes one.facts) records
    → HasItems longest_body (Between header) (Between header) (all_bytes records) (all_facts records) (length records)
records_items header [] each = no_items longest_body (Between header)
records_items header (one ∷ records) each =
    let first = record_items header one.bytes one.facts each.0 in
    let behind = records_items header records each.1 in
    subst (HasItems longest_body (Between header) (Between header) (all_bytes (one ∷ records)) (all_facts (one ∷ records))) (omega arith)
    (items_before longest_body (Between header) (Between header) (Between header) one.bytes (all_bytes records) one.facts
    (all_facts records) 1 (length records) first behind)

-- a part is its header and its records, as items
pub part_items : (bytes : List ℕ) (header : Header) (records : List Stated) → IsWritten bytes header records
    → HasItems longest_body Start (Between header) bytes (all_facts records) (length records)
part_items bytes header records is =
    let one : Stated = record { bytes = header_bytes header; facts = [] } in
    let has = item_before longest_body Start one (Between header) (Between header) (all_bytes records) (all_facts records) (length records)
    (is_header is.is_millis refl refl)
    (records_items header records is.each) in
    record {
      items = has.items;
      each = has.each;
      has_bytes = has.has_bytes
          ∙ sym is.spelled;
      has_facts = has.has_facts;
      has_count = omega (arith, has.has_count);
    }

-- ---- what has no fault, and what it states

-- a part has no fault
pub part_sound : (bytes : List ℕ) (header : Header) (records : List Stated) → IsWritten bytes header records → HasNoFault longest_body bytes
part_sound bytes header records is =
    let has = part_items bytes header records is in
    record {
      items = has.items;
      place = Between header;
      splits = record { each = has.each; parts = sym has.has_bytes ∙ sym (append-nil (all_bytes has.items)) };
      at_end = refl;
    }

-- however a part is written, it has one header and states one list of facts
pub written_states : (bytes : List ℕ) (header other : Header) (records others : List Stated) → IsWritten bytes header records
    → IsWritten bytes other others
    → (header ≡ other) × (all_facts records ≡ all_facts others)
written_states bytes header other records others one two =
    let has = part_items bytes header records one in
    let has_too = part_items bytes other others two in
    let e : all_bytes has.items ++ [] ≡ all_bytes has_too.items ++ [] =
    ap (λ (b : List ℕ). b ++ []) (has.has_bytes ∙ sym has_too.has_bytes) in
    let same = items_once longest_body Start (Between header) (Between other) has.items has_too.items [] [] has.each has_too.each e
    (none_stops longest_body (Between header)) (none_stops longest_body (Between other)) in
    let headers : Some header ≡ Some other = ap header_before same.1 in
    (cc, sym has.has_facts ∙ ap all_facts same.0 ∙ has_too.has_facts)

-- a part states one thing
pub states_one : (bytes : List ℕ) (ids other_ids : IdSize) (millis other_millis : ℕ) (facts other_facts : List FactValue)
    → IsPart bytes ids millis facts → IsPart bytes other_ids other_millis other_facts
    → (ids ≡ other_ids) × (millis ≡ other_millis) × (facts ≡ other_facts)
states_one bytes ids other_ids millis other_millis facts other_facts one two =
    let same = written_states bytes one.header two.header one.records two.records one.written two.written in (
      sym one.has_ids ∙ ap (λ (h : Header). h.ids) same.0 ∙ two.has_ids,
      sym one.has_millis ∙ ap (λ (h : Header). h.millis) same.0 ∙ two.has_millis,
      sym one.has_facts ∙ same.1 ∙ two.has_facts,
    )
