-- The items of a part: what is judged as one, from the first byte on. An item is wholly there and right, or the
-- first of its tests that fails says what is wrong.
use Rattle.std.specs.Prelude.{◌≡◌, ℕ, zero, suc, ◌+◌, ◌-◌, ◌^◌, ◌<◌, ◌≤◌, Bool, true, false, nat_lt, List, [], ◌∷◌, length, take, drop}
use Rattle.std.specs.Prelude.{Result, Ok, Err, Option, Some, None, ⊤, if◌then◌else◌}
use Rattle.hprof_items.specs.declared.header.Header.{Header}
use Rattle.hprof_items.specs.declared.head.Head.{Head}
use Rattle.hprof_items.specs.declared.head.HeadKind.{HeadKind}
use Rattle.hprof_items.specs.declared.head.HeadKind.TheVariants.{FactRecord, HeapDump, DumpEnd, Skipped}
use Rattle.hprof_values.specs.declared.reason.Reason.{Reason}
use Rattle.hprof_values.specs.declared.parse_stop.ParseStop.{ParseStop}
use Rattle.hprof_values.specs.declared.parse_stop.ParseStop.TheVariants as stops
use Rattle.hprof_values.specs.FieldGroups.{◌>>=◌}
use Rattle.hprof_items.specs.FactValue.{FactValue}
use Rattle.hprof_items.specs.Header.{header_bytes, IsMillis}
use Rattle.hprof_items.specs.Head.{head_bytes, is_dump_tag, kind_of}
use Rattle.hprof_items.specs.Reading.{header_at, head_at, body_at}
use Rattle.hprof_items.specs.Spelling.{longest_body}
use Rattle.hprof_items.specs.SubRecord.{dump_bytes, sub_at}
use Rattle.hprof_items.specs.SubReading.{bounds_within}
use Rattle.hprof_stream.specs.Record.{IsFactRecord, IsEndRecord, IsSubFact, IsSkippedRecord}
use Rattle.hprof_stream.specs.Part.{Stated}

-- where in a part an item stands
pub data Place : Type 0 where
  -- at its first byte
  Start : Place
  -- between the records behind this header
  Between : Header → Place
  -- within a heap dump record, which has so many bytes left, one or more
  Within : Header → (room : ℕ) → Place

-- the header that was read before the place
abbrev pub header_before : Place → Option Header
header_before Start = None
header_before (Between header) = Some header
header_before (Within header room) = Some header

-- the place where a heap dump record has so many bytes left
abbrev pub place_in : Header → ℕ → Place
place_in header zero = Between header
place_in header (suc room) = Within header (suc room)

-- the place behind that header, where so many bytes are left of a heap dump record
abbrev pub place_behind : Option Header → ℕ → Place
place_behind None room = Start
place_behind (Some header) room = place_in header room

-- a heap dump record has no more bytes left than the length in its head can say
abbrev pub HasRoom : Place → Type 0
HasRoom Start = ⊤
HasRoom (Between header) = ⊤
HasRoom (Within header room) = room ≤ longest_body

-- a part may end there
abbrev pub may_end : Place → Bool
may_end Start = false
may_end (Between header) = true
may_end (Within header room) = false

-- ---- the items that are right

-- at that place the bytes are one item, which states these facts and leads to the next place; a record with a
-- fact is no longer than the longest, its nine bytes of head not counted, and a sub-record no longer than that. Of a heap
-- dump record the head is an item, and each sub-record; a record that is passed over is one.
pub data IsItem (longest : ℕ) : Place → Stated → Place → Type 0 where
  is_header : {one : Stated} {header : Header} → IsMillis header.millis → one.bytes ≡ header_bytes header → one.facts ≡ []
      → IsItem longest Start one (Between header)
  is_fact : {one : Stated} {header : Header} {fact : FactValue} → IsFactRecord header.ids one.bytes fact
      → length one.bytes ≤ 9 + longest → one.facts ≡ fact ∷ [] → IsItem longest (Between header) one (Between header)
  is_dump_end : {one : Stated} {header : Header} → IsEndRecord one.bytes → one.facts ≡ []
      → IsItem longest (Between header) one (Between header)
  is_dump : {one : Stated} {header : Header} {tag time len : ℕ} → is_dump_tag tag ≡ true → time < 256 ^ 4 → len ≤ longest_body
      → one.bytes ≡ head_bytes tag time len → one.facts ≡ []
      → IsItem longest (Between header) one (place_in header len)
  is_sub : {one : Stated} {header : Header} {room : ℕ} {fact : FactValue} → IsSubFact header.ids fact
      → one.bytes ≡ dump_bytes header.ids fact → length one.bytes ≤ room → length one.bytes ≤ longest
      → one.facts ≡ fact ∷ [] → IsItem longest (Within header room) one (place_in header (room - length one.bytes))
  is_skipped : {one : Stated} {header : Header} → IsSkippedRecord one.bytes → one.facts ≡ []
      → IsItem longest (Between header) one (Between header)

-- items one after the other, from one place to another
pub data AreItems (longest : ℕ) : Place → List Stated → Place → Type 0 where
  none : {place : Place} → AreItems longest place [] place
  more : {from mid to : Place} {one : Stated} {items : List Stated} → IsItem longest from one mid → AreItems longest mid items to
      → AreItems longest from (one ∷ items) to

-- how many records an item at that place begins: those between records begin one
abbrev pub begun_at : Place → ℕ
begun_at Start = 0
begun_at (Between header) = 1
begun_at (Within header room) = 0

-- how many records the items begin
abbrev pub records_begun : {longest : ℕ} {from to : Place} {items : List Stated} → AreItems longest from items to → ℕ
records_begun none = 0
records_begun (more {from = from} item items) = begun_at from + records_begun items

-- ---- what stands at the front of some bytes

-- what an item states, and the place that it leads to
pub record Found : Type 0 where
  pub next : Place
  pub facts : List FactValue

abbrev pub found_header : Result (Header × ℕ) ParseStop → Result (Found × ℕ) ParseStop
found_header read = read >>= λ (header, n). Ok (record { next = Between header; facts = [] }, n)

abbrev pub found_fact : Header → Result FactValue Reason → ℕ → Result (Found × ℕ) ParseStop
found_fact header (Ok fact) n = Ok (record { next = Between header; facts = fact ∷ [] }, n)
found_fact header (Err reason) n = Err (stops.Fault reason)

-- a record whose head was read: the body of one with a fact is there, and right; that of one that is passed over is there;
-- of a heap dump the head is all
abbrev pub found_record : Header → HeadKind → Head → List ℕ → Result (Found × ℕ) ParseStop
found_record header FactRecord head bytes =
    if nat_lt (length bytes) (9 + head.length) then Err stops.Short
    else found_fact header (body_at header.ids head.tag (take head.length (drop 9 bytes))) (9 + head.length)
found_record header HeapDump head bytes = Ok (record { next = place_in header head.length; facts = [] }, 9)
found_record header DumpEnd head bytes = Ok (record { next = Between header; facts = [] }, 9)
found_record header Skipped head bytes =
    if nat_lt (length bytes) (9 + head.length) then Err stops.Short else Ok (record { next = Between header; facts = [] }, 9 + head.length)

abbrev pub found_behind : Header → Result (Head × ℕ) ParseStop → List ℕ → Result (Found × ℕ) ParseStop
found_behind header read bytes = read >>= λ (head, n). found_record header (kind_of head.tag) head bytes

-- a sub-record
abbrev pub found_sub : Header → ℕ → Result (FactValue × ℕ) ParseStop → Result (Found × ℕ) ParseStop
found_sub header room read = read >>= λ (fact, n). Ok (record { next = place_in header (room - n); facts = fact ∷ [] }, n)

-- the item at the front, or the first of its tests that fails
unfoldable pub item_at : ℕ → Place → List ℕ → Result (Found × ℕ) ParseStop
item_at longest Start bytes = found_header (header_at bytes)
item_at longest (Between header) bytes = found_behind header (head_at header.ids longest bytes) bytes
item_at longest (Within header room) bytes = found_sub header room (sub_at header.ids (bounds_within room longest bytes) bytes)

-- ---- what is held of an item that is not yet there

abbrev pub is_skipped_kind : HeadKind → Bool
is_skipped_kind FactRecord = false
is_skipped_kind HeapDump = false
is_skipped_kind DumpEnd = false
is_skipped_kind Skipped = true

-- the head of a record that is passed over was read
abbrev pub is_skipped_head : Result (Head × ℕ) ParseStop → Bool
is_skipped_head (Ok (head, n)) = is_skipped_kind (kind_of head.tag)
is_skipped_head (Err stop) = false

-- at the front stands a record that is passed over
abbrev pub is_passed_over : ℕ → Place → List ℕ → Bool
is_passed_over longest Start bytes = false
is_passed_over longest (Between header) bytes = is_skipped_head (head_at header.ids longest bytes)
is_passed_over longest (Within header room) bytes = false

-- the bytes that are held of such an item: all, but of a record that is passed over none
abbrev pub held_of : ℕ → Place → List ℕ → List ℕ
held_of longest place rest = if is_passed_over longest place rest then [] else rest
