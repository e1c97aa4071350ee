-- Items one after the other.
use Rattle.std.proofs.Common.{◌≡◌, ℕ, zero, suc, ◌+◌, ◌-◌, ◌<◌, ◌≤◌, List, [], ◌++◌, length, Option, Some, None, refl, sym, ap, ◌∙◌, arith}
use Rattle.std.proofs.lemmas.List.{length-append}
use Rattle.std.proofs.lemmas.List.Concat.{flat_map-append}
use Rattle.hprof_values.specs.RecordTag.{code_of_record}
use Rattle.hprof_items.specs.declared.header.Header.{Header}
use Rattle.hprof_items.specs.RecordBody.{record_body}
use Rattle.hprof_items.specs.Spelling.{longest_body}
use Rattle.hprof_stream.specs.Part.{Stated, all_bytes, all_facts}
use Rattle.hprof_stream.specs.Item.{Place, Start, Between, Within, HasRoom, header_before, place_in, place_behind, IsItem, is_header}
use Rattle.hprof_stream.specs.Item.{is_fact, is_dump_end, is_dump, is_sub, is_skipped, AreItems, none, more, begun_at, records_begun}
use Rattle.hprof_stream.proofs.Lengths.{length-header, length-record}
use Rattle.hprof_stream.proofs.SubFacts.{sub_some, sub_fits}

-- ---- items, and then more items

pub AreItems-then : (longest : ℕ) (from mid to : Place) (items others : List Stated) → AreItems longest from items mid
    → AreItems longest mid others to → AreItems longest from (items ++ others) to
AreItems-then longest from mid to items others none second = second
AreItems-then longest from mid to items others (more {mid = next} {items = rest} first behind) second =
    more first (AreItems-then longest next mid to rest others behind second)

-- their bytes
pub all_bytes-then : (items others : List Stated) → all_bytes (items ++ others) ≡ all_bytes items ++ all_bytes others
all_bytes-then items others = flat_map-append (λ one. one.bytes) items others

-- their facts
pub all_facts-then : (items others : List Stated) → all_facts (items ++ others) ≡ all_facts items ++ all_facts others
all_facts-then items others = flat_map-append (λ one. one.facts) items others

-- the records that they begin
pub records_begun-then : (longest : ℕ) (from mid to : Place) (items others : List Stated) → (first : AreItems longest from items mid)
    → (second : AreItems longest mid others to)
    → records_begun (AreItems-then longest from mid to items others first second) ≡ records_begun first + records_begun second
unfolding AreItems-then
records_begun-then longest from mid to items others none second = omega arith
records_begun-then longest from mid to items others (more {mid = next} {items = rest} first behind) second =
    let later = records_begun-then longest next mid to rest others behind second in omega (arith, later)

-- ---- sizes

-- an item has a byte, and at most one fact
any_item_size : (longest : ℕ) (from : Place) (one : Stated) (to : Place) → IsItem longest from one to
    → (0 < length one.bytes) × (length one.facts ≤ 1)
any_item_size longest from one to (is_header {header = header} fits spelled facts) =
    (omega (arith, ap length spelled, length-header header), omega (arith, ap length facts))
any_item_size longest from one to (is_fact {header = header} {fact = fact} states short facts) = (
  omega (
    arith,
    ap length states.spelled,
    length-record (code_of_record states.tag) states.time
        (record_body header.ids states.tag fact),
  ),
  omega (arith, ap length facts),
)
any_item_size longest from one to (is_dump_end ends facts) =
    (omega (arith, ap length ends.spelled, length-record 0x2c ends.time []), omega (arith, ap length facts))
any_item_size longest from one to (is_dump is is_time small spelled facts) =
    (omega (arith, ap length spelled), omega (arith, ap length facts))
any_item_size longest from one to (is_sub {header = header} {fact = fact} states spelled in_room in_longest facts) =
    (omega (arith, ap length spelled, sub_some header.ids fact (sub_fits header.ids fact states).0), omega (arith, ap length facts))
any_item_size longest from one to (is_skipped states facts) =
    (omega (arith, ap length states.spelled, length-record states.tag states.time states.body), omega (arith, ap length facts))

pub item_size : (longest : ℕ) (from to : Place) (one : Stated) → IsItem longest from one to
    → (0 < length one.bytes) × (length one.facts ≤ 1)
item_size longest from to one is = any_item_size longest from one to is

-- there are at least as many bytes as items, and as facts
pub items_size : (longest : ℕ) (from to : Place) (items : List Stated) → AreItems longest from items to
    → (length items ≤ length (all_bytes items)) × (length (all_facts items) ≤ length (all_bytes items))
items_size longest from to items none = (omega arith, omega arith)
items_size longest from to items (more {mid = mid} {one = one} {items = rest} first behind) =
    let here = item_size longest from mid one first in
    let there = items_size longest mid to rest behind in (
      omega (arith, here, there, length-append one.bytes (all_bytes rest)),
      omega (arith, here, there, length-append one.bytes (all_bytes rest), length-append one.facts (all_facts rest)),
    )

-- an item begins at most one record
begun_most : (from : Place) → begun_at from ≤ 1
begun_most Start = omega arith
begun_most (Between header) = omega arith
begun_most (Within header room) = omega arith

-- so there are at least as many items as records
pub records_size : (longest : ℕ) (from to : Place) (items : List Stated) → (are : AreItems longest from items to)
    → records_begun are ≤ length items
records_size longest from to items none = omega arith
records_size longest from to items (more {mid = mid} {one = one} {items = rest} first behind) =
    let here = begun_most from in
    let there = records_size longest mid to rest behind in
    omega (arith, here, there)

-- ---- the header before a place

-- the header of a place behind one
pub header_in : (header : Header) (room : ℕ) → header_before (place_in header room) ≡ Some header
header_in header zero = refl
header_in header (suc room) = refl

-- the place tells the header
pub header_at_place : (header : Option Header) (room : ℕ) → header_before (place_behind header room) ≡ header
header_at_place None room = refl
header_at_place (Some header) room = header_in header room

pub header_behind : (one other : Option Header) (room left : ℕ) → place_behind one room ≡ place_behind other left → one ≡ other
header_behind one other room left e = sym (header_at_place one room) ∙ ap header_before e ∙ header_at_place other left

-- behind an item a header was read, and it is that before the item, if any
item_leads : (longest : ℕ) (from : Place) (one : Stated) (to : Place) → IsItem longest from one to
    → (header : Header) × (header_before to ≡ Some header) × ((before : Header) → header_before from ≡ Some before → before ≡ header)
item_leads longest from one to (is_header {header = header} fits spelled facts) = (header, refl, λ before e. absurd cc)
item_leads longest from one to (is_fact {header = header} states short facts) = (header, refl, λ before e. cc)
item_leads longest from one to (is_dump_end {header = header} ends facts) = (header, refl, λ before e. cc)
item_leads longest from one to (is_dump {header = header} {len = len} is is_time small spelled facts) =
    (header, header_in header len, λ before e. cc)
item_leads longest from one to (is_sub {header = header} {room = room} states spelled in_room in_longest facts) =
    (header, header_in header (room - length one.bytes), λ before e. cc)
item_leads longest from one to (is_skipped {header = header} states facts) = (header, refl, λ before e. cc)

-- a header that was read stays, over an item
pub item_kept : (longest : ℕ) (header : Header) (from to : Place) (one : Stated) → IsItem longest from one to
    → header_before from ≡ Some header → header_before to ≡ Some header
item_kept longest header from to one is e = let lead = item_leads longest from one to is in lead.1 ∙ ap Some (sym (lead.2 header e))

-- and over items
pub items_kept : (longest : ℕ) (header : Header) (from to : Place) (items : List Stated) → AreItems longest from items to
    → header_before from ≡ Some header → header_before to ≡ Some header
items_kept longest header from to items none e = e
items_kept longest header from to items (more {mid = mid} {one = one} {items = rest} first behind) e =
    items_kept longest header mid to rest behind (item_kept longest header from mid one first e)

-- where no header was read there is no item
pub items_at_start : (longest : ℕ) (from to : Place) (items : List Stated) → AreItems longest from items to → header_before to ≡ None
    → (from ≡ to) × (items ≡ [])
items_at_start longest from to items none e = (refl, refl)
items_at_start longest from to items (more {mid = mid} {one = one} {items = rest} first behind) e =
    let lead = item_leads longest from one mid first in
    let stays : header_before to ≡ Some lead.0 = items_kept longest lead.0 mid to rest behind lead.1 in
    absurd cc

-- items from where this header was read to where that one was: nothing was read before a header, and it stays
pub items_headers : (longest : ℕ) (from to : Option Header) (room left : ℕ) (items : List Stated)
    → AreItems longest (place_behind from room) items (place_behind to left)
    → (to ≡ None → (from ≡ None) × (items ≡ [])) × ((header : Header) → from ≡ Some header → to ≡ Some header)
items_headers longest from to room left items are = (
  λ e. let start =
      items_at_start longest (place_behind from room) (place_behind to left) items are (header_at_place to left ∙ e) in
      (header_behind from to room left start.0 ∙ e, start.1),
  λ header e. sym (header_at_place to left) ∙ items_kept longest header (place_behind from room) (place_behind to left) items are
      (header_at_place from room ∙ e),
)

-- ---- the room in a heap dump

-- what is left of a heap dump record is no more than its length
room_in : (header : Header) (room : ℕ) → room ≤ longest_body → HasRoom (place_in header room)
room_in header zero small = tt
room_in header (suc room) small = small

pub room_behind : (header : Option Header) (room : ℕ) → room ≤ longest_body → HasRoom (place_behind header room)
room_behind None room small = tt
room_behind (Some header) room small = room_in header room small

-- so behind an item
item_room : (longest : ℕ) (from : Place) (one : Stated) (to : Place) → IsItem longest from one to → HasRoom from → HasRoom to
item_room longest from one to (is_header fits spelled facts) room = tt
item_room longest from one to (is_fact states short facts) room = tt
item_room longest from one to (is_dump_end ends facts) room = tt
item_room longest from one to (is_dump {header = header} {len = len} is is_time small spelled facts) room = room_in header len small
item_room longest from one to (is_sub {header = header} {room = left} states spelled in_room in_longest facts) room =
    room_in header (left - length one.bytes) (omega (arith, room))
item_room longest from one to (is_skipped states facts) room = tt

-- and behind items
pub items_room : (longest : ℕ) (from to : Place) (items : List Stated) → AreItems longest from items to → HasRoom from → HasRoom to
items_room longest from to items none room = room
items_room longest from to items (more {mid = mid} {one = one} {items = rest} first behind) room =
    items_room longest mid to rest behind (item_room longest from one mid first room)
