-- A smaller limit changes the answer only to an item that is too long.
use Rattle.std.proofs.Common.{◌≡◌, ◌⊎◌, inl, inr, ℕ, ◌+◌, ◌-◌, ◌≤◌, false, List, [], ◌∷◌, ◌++◌, length, drop, take, Result, Ok, Err, Some}
use Rattle.std.proofs.Common.{refl, sym, ap, ◌∙◌, append_assoc, arith}
use Rattle.std.proofs.lemmas.Bool.{cases_lt}
use Rattle.std.proofs.lemmas.List.{length-append}
use Rattle.hprof_items.specs.declared.header.Header.{Header}
use Rattle.hprof_items.specs.declared.head.Head.{Head}
use Rattle.hprof_items.specs.declared.head.HeadKind.{HeadKind}
use Rattle.hprof_items.specs.declared.head.HeadKind.TheVariants.{FactRecord, HeapDump, DumpEnd, Skipped}
use Rattle.hprof_values.specs.declared.reason.Reason.{Reason}
use Rattle.hprof_values.specs.declared.reason.Reason.TheVariants.{Truncated}
use Rattle.hprof_values.specs.declared.parse_stop.ParseStop.{ParseStop}
use Rattle.hprof_values.specs.declared.parse_stop.ParseStop.TheVariants.{Short, TooLong, Fault}
use Rattle.hprof_items.specs.FactValue.{FactValue}
use Rattle.hprof_items.specs.Head.{kind_of}
use Rattle.hprof_items.specs.SubReading.{bounds_within}
use Rattle.hprof_items.specs.SubRecord.{dump_bytes, sub_at}
use Rattle.hprof_values.specs.FieldGroups.{Bounds}
use Rattle.hprof_items.specs.Reading.{head_at, is_too_long, body_at}
use Rattle.hprof_items.proofs.Limits.{head_same_or_long, head_taken}
use Rattle.hprof_items.proofs.Steps.{long_enough, whole_parts}
use Rattle.hprof_stream.specs.declared.part_fault.PartFault.{PartFault}
use Rattle.hprof_stream.specs.declared.part_fault.PartFault.TheVariants.{Malformed, ItemTooLong}
use Rattle.hprof_stream.specs.Record.{IsFactRecord, IsSubFact}
use Rattle.hprof_stream.specs.Part.{Stated, all_bytes}
use Rattle.hprof_stream.specs.Item.{Place, Start, Between, Within, place_in, Found, IsItem, is_header, is_fact, is_dump_end, is_dump}
use Rattle.hprof_stream.specs.Item.{is_sub, is_skipped, AreItems, none, more, found_behind, found_record, found_fact, found_sub, item_at}
use Rattle.hprof_stream.specs.Fault.{Splits, fault_at, HasNoFault, IsFirstFault}
use Rattle.hprof_stream.proofs.FoundItems.{sub_step}
use Rattle.hprof_stream.proofs.Items.{item_again}
use Rattle.hprof_stream.proofs.SubEnds.{sub_ends}
use Rattle.hprof_stream.proofs.SubLimits.{sub_cut}
use Rattle.hprof_stream.proofs.Tags.{fact_taken}
use Rattle.hprof_stream.proofs.Faults.{too_long_is_first}
use Rattle.hprof_stream.specs.Offset.{offset_of}

-- ---- one item

-- the item is the same, or too long for the smaller limit
pub same_or_long : (less longest : ℕ) (place : Place) (bytes : List ℕ) → less ≤ longest
    → (item_at less place bytes ≡ item_at longest place bytes) ⊎ (item_at less place bytes ≡ Err TooLong)
unfolding item_at
same_or_long less longest Start bytes le = inl refl
same_or_long less longest (Between header) bytes le =
    elim (head_same_or_long header.ids less longest bytes le) [
      | inl same ↦ inl (ap (λ (s : Result (Head × ℕ) ParseStop). found_behind header s bytes) same)
      | inr long ↦ inr (ap (λ (s : Result (Head × ℕ) ParseStop). found_behind header s bytes) long)
    ]
same_or_long less longest (Within header room) bytes le =
    elim (sub_cut less (bounds_within room longest bytes) le header.ids bytes) [
      | inl long ↦ inr (ap (found_sub header room) long)
      | inr same ↦ inl (ap (found_sub header room) same)
    ]

-- a fact that is found takes the bytes that were given
fact_size : (header : Header) (read : Result FactValue Reason) (m : ℕ) (found : Found) (n : ℕ) → found_fact header read m ≡ Ok (found, n)
    → m ≡ n
fact_size header (Ok fact) m found n e = (whole_parts (record { next = Between header; facts = fact ∷ [] }) found m n e).1
fact_size header (Err reason) m found n e = absurd cc

-- no facts are not one
none_is_one : (fact : FactValue) → ◌≡◌ {A = List FactValue} [] (fact ∷ []) → ⊥
none_is_one fact e = cc

-- what states nothing states no fact
states_none : (place : Place) (fact : FactValue) (next : Place) (m n : ℕ)
    → ◌≡◌ {A = Result (Found × ℕ) ParseStop} (Ok (record { next = place; facts = [] }, m))
    (Ok (record { next = next; facts = fact ∷ [] }, n)) → ⊥
states_none place fact next m n e =
    let same = whole_parts (record { next = place; facts = [] }) (record { next = next; facts = fact ∷ [] }) m n e in
    none_is_one fact (ap (λ (f : Found). f.facts) same.0)

-- a whole record with a fact is no longer than the longest item
record_within : (less : ℕ) (header : Header) (kind : HeadKind) (head : Head) (bytes : List ℕ) (fact : FactValue) (next : Place) (n : ℕ)
    → kind_of head.tag ≡ kind → is_too_long less head ≡ false
    → found_record header kind head bytes ≡ Ok (record { next = next; facts = fact ∷ [] }, n) → n ≤ 9 + less
record_within less header FactRecord head bytes fact next n kind taken e =
    let long = long_enough (length bytes) (9 + head.length)
    (found_fact header (body_at header.ids head.tag (take head.length (drop 9 bytes))) (9 + head.length))
    (record { next = next; facts = fact ∷ [] }) n e in
    let size = fact_size header (body_at header.ids head.tag (take head.length (drop 9 bytes))) (9 + head.length)
    (record { next = next; facts = fact ∷ [] }) n long.1 in
    let within = fact_taken less head kind taken in
    omega (arith, size, within)
record_within less header HeapDump head bytes fact next n kind taken e = absurd (states_none (place_in header head.length) fact next 9 n e)
record_within less header DumpEnd head bytes fact next n kind taken e = absurd (states_none (Between header) fact next 9 n e)
record_within less header Skipped head bytes fact next n kind taken e =
    let last : Result (Found × ℕ) ParseStop = Ok (record { next = Between header; facts = [] }, 9 + head.length) in
    let long = long_enough (length bytes) (9 + head.length) last (record { next = next; facts = fact ∷ [] }) n e in
    absurd (states_none (Between header) fact next (9 + head.length) n long.1)

-- the same of what is found behind the header
behind_within : (less : ℕ) (header : Header) (step : Result (Head × ℕ) ParseStop) (bytes : List ℕ) (fact : FactValue) (next : Place) (n : ℕ)
    → head_at header.ids less bytes ≡ step
    → found_behind header step bytes ≡ Ok (record { next = next; facts = fact ∷ [] }, n) → n ≤ 9 + less
behind_within less header (Ok (head, m)) bytes fact next n is e =
    record_within less header (kind_of head.tag) head bytes fact next n refl (head_taken header.ids less bytes head m is) e
behind_within less header (Err stop) bytes fact next n is e = absurd cc

item_within : (less : ℕ) (header : Header) (bytes : List ℕ) (fact : FactValue) (next : Place) (n : ℕ)
    → item_at less (Between header) bytes ≡ Ok (record { next = next; facts = fact ∷ [] }, n) → n ≤ 9 + less
unfolding item_at
item_within less header bytes fact next n e = behind_within less header (head_at header.ids less bytes) bytes fact next n refl e

-- ---- items

-- a whole sub-record is no longer than the longest item
sub_within : (less : ℕ) (header : Header) (room : ℕ) (bytes : List ℕ) (found : Found) (n : ℕ)
    → item_at less (Within header room) bytes ≡ Ok (found, n) → n ≤ less
unfolding item_at
sub_within less header room bytes found n e =
    let bounds : Bounds = bounds_within room less bytes in
    let step = sub_step header room (sub_at header.ids bounds bytes) found n e in
    sub_ends header.ids bounds bytes step.0 n step.1

-- what is not whole for the smaller limit is too long for it
long_by : (less longest : ℕ) (from next : Place) (one : Stated) (extra : List ℕ) → less ≤ longest → IsItem longest from one next
    → (item_at less from (one.bytes ++ extra) ≡ Ok (record { next = next; facts = one.facts }, length one.bytes) → ⊥)
    → item_at less from (one.bytes ++ extra) ≡ Err TooLong
long_by less longest from next one extra le is never =
    elim (same_or_long less longest from (one.bytes ++ extra) le) [
      | inr long ↦ long
      | inl same ↦ absurd (never (same ∙ item_again longest from next one extra is))
    ]

-- a record that states a fact
fact_or_long : (less longest : ℕ) (header : Header) (one : Stated) (fact : FactValue) → less ≤ longest
    → IsFactRecord header.ids one.bytes fact → length one.bytes ≤ 9 + longest → one.facts ≡ fact ∷ []
    → IsItem less (Between header) one (Between header) ⊎ ((extra : List ℕ)
    → item_at less (Between header) (one.bytes ++ extra) ≡ Err TooLong)
fact_or_long less longest header one fact le is short facts =
    elim (cases_lt (9 + less) (length one.bytes)) [
      | inr within ↦ inl (is_fact is within facts)
      | inl above ↦ inr (λ extra. long_by less longest (Between header) (Between header) one extra le (is_fact is short facts) (λ found.
          let stated = found ∙ ap (λ (f : List FactValue). Ok (record { next = Between header; facts = f }, length one.bytes)) facts in
          let within = item_within less header (one.bytes ++ extra) fact (Between header) (length one.bytes) stated in omega
          (arith, within, above)))
    ]

-- a sub-record
sub_or_long : (less longest : ℕ) (header : Header) (room : ℕ) (one : Stated) (fact : FactValue) → less ≤ longest → IsSubFact header.ids fact
    → one.bytes ≡ dump_bytes header.ids fact
    → length one.bytes ≤ room → length one.bytes ≤ longest → one.facts ≡ fact ∷ []
    → IsItem less (Within header room) one (place_in header (room - length one.bytes)) ⊎
    ((extra : List ℕ) → item_at less (Within header room) (one.bytes ++ extra) ≡ Err TooLong)
sub_or_long less longest header room one fact le is spelled in_room in_longest facts =
    let next : Place = place_in header (room - length one.bytes) in
    elim (cases_lt less (length one.bytes)) [
      | inr within ↦ inl (is_sub is spelled in_room within facts)
      | inl above ↦ inr (λ extra. long_by less longest (Within header room) next one extra le (is_sub is spelled in_room in_longest facts)
          (λ found.
          let within = sub_within less header room (one.bytes ++ extra) (record { next = next; facts = one.facts })
          (length one.bytes) found in omega (arith, within, above)))
    ]

-- an item is one for the smaller limit too, or too long for it, whatever follows
item_or_long : (less longest : ℕ) (from : Place) (one : Stated) (to : Place) → less ≤ longest → IsItem longest from one to
    → IsItem less from one to ⊎ ((extra : List ℕ) → item_at less from (one.bytes ++ extra) ≡ Err TooLong)
item_or_long less longest from one to le (is_header fits spelled facts) = inl (is_header fits spelled facts)
item_or_long less longest from one to le (is_dump_end is facts) = inl (is_dump_end is facts)
item_or_long less longest from one to le (is_dump is is_time small spelled facts) = inl (is_dump is is_time small spelled facts)
item_or_long less longest from one to le (is_skipped is facts) = inl (is_skipped is facts)
item_or_long less longest from one to le (is_fact {header = header} {fact = fact} is short facts) =
    fact_or_long less longest header one fact le is short facts
item_or_long less longest from one to le (is_sub {header = header} {room = room} {fact = fact} is spelled in_room in_longest facts) =
    sub_or_long less longest header room one fact le is spelled in_room in_longest facts

-- items of which one is too long for the smaller limit, and those before it are not
pub record IsCut (less : ℕ) (from : Place) (items : List Stated) : Type 0 where
  pub front : List Stated
  pub behind : List ℕ
  pub place : Place
  pub each : AreItems less from front place
  pub parts : all_bytes items ≡ all_bytes front ++ behind
  pub long : (extra : List ℕ) → item_at less place (behind ++ extra) ≡ Err TooLong

items_or_cut : (less longest : ℕ) (from to : Place) (items : List Stated) → less ≤ longest → AreItems longest from items to
    → AreItems less from items to ⊎ IsCut less from items
items_or_cut less longest from to items le none = inl none
items_or_cut less longest from to items le (more {mid = mid} {one = one} {items = others} first next) =
    elim (item_or_long less longest from one mid le first) [
      | inr long ↦ inr (record {
        front = [];
        behind = all_bytes (one ∷ others);
        place = from;
        each = none;
        parts = refl;
        long = λ extra. ap (item_at less from) (append_assoc one.bytes (all_bytes others) extra) ∙ long (all_bytes others ++ extra);
      })
      | inl item ↦ elim (items_or_cut less longest mid to others le next) [
        | inl items_too ↦ inl (more item items_too)
        | inr cut ↦ inr (record {
          front = one ∷ cut.front;
          behind = cut.behind;
          place = cut.place;
          each = more item cut.each;
          parts = ap (λ (b : List ℕ). one.bytes ++ b) cut.parts ∙ sym (append_assoc one.bytes (all_bytes cut.front) cut.behind);
          long = cut.long;
        })
      ]
    ]

-- where items are cut, the first fault is that one is too long, no later than they end
cut_is_first : (less : ℕ) (bytes : List ℕ) (items : List Stated) (rest : List ℕ) → bytes ≡ all_bytes items ++ rest → IsCut less Start items
    → (at : ℕ) × (at ≤ length (all_bytes items)) × IsFirstFault less bytes (ItemTooLong at)
cut_is_first less bytes items rest e cut = (
  length (all_bytes cut.front),
  omega (arith, ap length cut.parts, length-append (all_bytes cut.front) cut.behind),
  too_long_is_first less bytes cut.front cut.place (cut.behind ++ rest)
      (record {
        each = cut.each;
        parts = e ∙ ap (λ (b : List ℕ). b ++ rest) cut.parts
            ∙ append_assoc (all_bytes cut.front) cut.behind rest;
      })
      (cut.long rest),
)

-- ---- the law

pub smaller_sound : (less longest : ℕ) (bytes : List ℕ) → less ≤ longest → HasNoFault longest bytes
    → HasNoFault less bytes ⊎ ((at : ℕ) × IsFirstFault less bytes (ItemTooLong at))
smaller_sound less longest bytes le sound =
    elim (items_or_cut less longest Start sound.place sound.items le sound.splits.each) [
      | inl each ↦ inl (record {
        items = sound.items;
        place = sound.place;
        splits = record { each = each; parts = sound.splits.parts };
        at_end = sound.at_end;
      })
      | inr cut ↦ let first = cut_is_first less bytes sound.items [] sound.splits.parts cut in inr (first.0, first.2)
    ]

-- the offset of the fault of a test
offset_at : (offset : ℕ) (step : Result (Found × ℕ) ParseStop) (fault : PartFault) → fault_at offset step ≡ Some fault
    → offset_of fault ≡ offset
offset_at offset (Ok (found, n)) fault e = absurd cc
offset_at offset (Err Short) fault e = let same : Malformed offset Truncated ≡ fault = cc in ap offset_of (sym same)
offset_at offset (Err TooLong) fault e = let same : ItemTooLong offset ≡ fault = cc in ap offset_of (sym same)
offset_at offset (Err (Fault reason)) fault e = let same : Malformed offset reason ≡ fault = cc in ap offset_of (sym same)

pub smaller_faulty : (less longest : ℕ) (bytes : List ℕ) (fault : PartFault) → less ≤ longest → IsFirstFault longest bytes fault
    → IsFirstFault less bytes fault ⊎ ((at : ℕ) × (at ≤ offset_of fault) × IsFirstFault less bytes (ItemTooLong at))
smaller_faulty less longest bytes fault le first =
    let offset = offset_at (length (all_bytes first.items)) (item_at longest first.place first.rest) fault first.fails in
    elim (items_or_cut less longest Start first.place first.items le first.splits.each) [
      | inr cut ↦ let long =
          cut_is_first less bytes first.items first.rest first.splits.parts cut in inr (long.0, omega (arith, long.1, offset), long.2)
      | inl each ↦
          let splits : Splits less bytes first.items first.place first.rest = record { each = each; parts = first.splits.parts } in
          elim (same_or_long less longest first.place first.rest le) [
            | inl same ↦ inl (record {
              items = first.items;
              place = first.place;
              rest = first.rest;
              splits = splits;
              undone = first.undone;
              fails = ap (fault_at (length (all_bytes first.items))) same ∙ first.fails;
            })
            | inr long ↦ inr (
              length (all_bytes first.items),
              omega (arith, offset),
              too_long_is_first less bytes first.items first.place first.rest splits long,
            )
          ]
    ]
