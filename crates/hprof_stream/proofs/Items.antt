-- What a reading finds at the front of some bytes is the item that stands there, and the item that stands there is
-- found.
use Rattle.std.proofs.Common.{◌≡◌, ℕ, ◌+◌, ◌^◌, ◌<◌, ◌≤◌, true, ltb, List, [], ◌∷◌, ◌++◌, length, take, drop, Option, Result, refl, sym, ap}
use Rattle.std.proofs.Common.{◌∙◌, append_assoc, append-nil, arith, Ok, Err}
use Rattle.std.proofs.lemmas.Bool.{cond-false, le-ltb}
use Rattle.std.proofs.lemmas.List.{take_at, length-append}
use Rattle.hprof_values.specs.declared.ids.IdSize.{IdSize}
use Rattle.hprof_values.specs.declared.record_tag.RecordTag.{RecordTag}
use Rattle.hprof_values.specs.declared.reason.Reason.{Reason}
use Rattle.hprof_values.specs.FieldGroups.{IsWithin}
use Rattle.hprof_values.specs.Ids.{IsBytes}
use Rattle.hprof_values.specs.RecordTag.{code_of_record}
use Rattle.hprof_items.specs.declared.header.Header.{Header}
use Rattle.hprof_items.specs.declared.head.Head.{Head}
use Rattle.hprof_items.specs.declared.head.HeadKind.{HeadKind}
use Rattle.hprof_items.specs.declared.head.HeadKind.TheVariants.{FactRecord, HeapDump, DumpEnd, Skipped}
use Rattle.hprof_values.specs.declared.parse_stop.ParseStop.{ParseStop}
use Rattle.hprof_values.specs.declared.parse_stop.ParseStop.TheVariants.{Short}
use Rattle.hprof_items.specs.FactValue.{FactValue}
use Rattle.hprof_items.specs.Header.{header_bytes, IsMillis}
use Rattle.hprof_items.specs.Head.{kind_of, head_bytes, record_bytes, is_dump_tag}
use Rattle.hprof_items.specs.Reading.{body_at, body_as, IsRightHead}
use Rattle.hprof_items.specs.RecordBody.{record_body, BodyFits}
use Rattle.hprof_items.specs.Spelling.{longest_body}
use Rattle.hprof_items.specs.SubRecord.{dump_bytes}
use Rattle.hprof_items.specs.SubReading.{bounds_within}
use Rattle.hprof_items.proofs.Headers.{header_again}
use Rattle.hprof_items.proofs.Heads.{head_again}
use Rattle.hprof_items.proofs.RecordBodies.{record_again, record_code_again}
use Rattle.hprof_items.proofs.Dumps.{sub_again}
use Rattle.hprof_stream.specs.Record.{IsSubFact}
use Rattle.hprof_stream.specs.Part.{Stated}
use Rattle.hprof_stream.specs.Item.{Place, Start, Between, Within, HasRoom, place_in, Found, IsItem, is_header, is_fact, is_dump_end}
use Rattle.hprof_stream.specs.Item.{is_dump, is_sub, is_skipped, found_header, found_fact, found_record, found_behind, found_sub, item_at}
use Rattle.hprof_stream.proofs.Tags.{kind_of_fact, dump_kind, dump_is_no_fact, dump_is_no_end, skipped_is_no_fact, skipped_is_no_end}
use Rattle.hprof_stream.proofs.Tags.{body_legal, fact_head_right, other_head_right, any_legal}
use Rattle.hprof_stream.proofs.SubFacts.{sub_fits, record_fits}
use Rattle.hprof_stream.proofs.Lengths.{length-header, length-record}
use Rattle.hprof_stream.proofs.FoundItems.{behind_sub, found_header_item, found_record_item, found_sub_item}

-- what is found at the front is an item
pub item_found : (longest : ℕ) (place : Place) (bytes : List ℕ) (found : Found) (n : ℕ) → HasRoom place → IsBytes bytes
    → item_at longest place bytes ≡ Ok (found, n)
    → (n ≤ length bytes) × (0 < n) × IsItem longest place (record { bytes = take n bytes; facts = found.facts }) found.next
unfolding item_at
item_found longest Start bytes found n room are e = found_header_item longest bytes found n are e
item_found longest (Between header) bytes found n room are e = found_record_item longest header bytes found n are e
item_found longest (Within header left) bytes found n room are e = found_sub_item longest header left bytes found n are room e

-- ---- the item is found

-- the whole item at the front
abbrev IsAgain : ℕ → Place → Place → Stated → List ℕ → Type 0
IsAgain longest place next one rest =
    item_at longest place (one.bytes ++ rest) ≡ Ok (record { next = next; facts = one.facts }, length one.bytes)

-- by what its bytes and facts are
again_by : (longest : ℕ) (place next : Place) (one : Stated) (bytes rest : List ℕ) (facts : List FactValue) → one.bytes ≡ bytes
    → one.facts ≡ facts
    → item_at longest place (bytes ++ rest) ≡ Ok (record { next = next; facts = facts }, length bytes)
    → IsAgain longest place next one rest
again_by longest place next one bytes rest facts same are e =
    ap (λ (b : List ℕ). item_at longest place (b ++ rest)) same ∙ e
    ∙ ap (λ (n : ℕ). Ok (record { next = next; facts = facts }, n)) (sym (ap length same))
    ∙ ap (λ (f : List FactValue). Ok (record { next = next; facts = f }, length one.bytes)) (sym are)

-- a header is found
header_item_again : (longest : ℕ) (header : Header) (rest : List ℕ) → IsMillis header.millis
    → item_at longest Start (header_bytes header ++ rest)
    ≡ Ok (record { next = Between header; facts = [] }, length (header_bytes header))
unfolding item_at
header_item_again longest header rest fits =
    ap found_header (header_again header rest fits)
    ∙ ap (λ (n : ℕ). Ok (record { next = Between header; facts = [] }, n)) (sym (length-header header))

-- what stands in front of a head says no more than its nine bytes
head_item : (longest : ℕ) (header : Header) (kind : HeadKind) (head : Head) (rest : List ℕ) → IsRightHead header.ids longest head
    → kind_of head.tag ≡ kind
    → item_at longest (Between header) (head_bytes head.tag head.time head.length ++ rest)
    ≡ found_record header kind head (head_bytes head.tag head.time head.length ++ rest)
unfolding item_at
head_item longest header kind head rest right is =
    let bytes : List ℕ = head_bytes head.tag head.time head.length ++ rest in
    ap (λ (s : Result (Head × ℕ) ParseStop). found_behind header s bytes) (head_again header.ids longest head rest right)
    ∙ ap (λ (k : HeadKind). found_record header k head bytes) is

-- a record of a fact is found
fact_item_again : (longest : ℕ) (header : Header) (known : RecordTag) (time : ℕ) (fact : FactValue) (rest : List ℕ)
    → BodyFits header.ids known fact → time < 256 ^ 4
    → length (record_body header.ids known fact) ≤ longest_body → length (record_body header.ids known fact) ≤ longest
    → item_at longest (Between header) (record_bytes (code_of_record known) time (record_body header.ids known fact) ++ rest)
    ≡ Ok (
      record { next = Between header; facts = fact ∷ [] },
      length (record_bytes (code_of_record known) time
          (record_body header.ids known fact)),
    )
fact_item_again longest header known time fact rest fits is_time small short =
    let ids : IdSize = header.ids in
    let body : List ℕ = record_body ids known fact in
    let len : ℕ = length body in
    let tag : ℕ = code_of_record known in
    let front : List ℕ = head_bytes tag time len in
    let all : List ℕ = front ++ (body ++ rest) in
    let head : Head = record { tag = tag; time = time; length = len } in
    let right : IsRightHead ids longest head =
    fact_head_right ids longest known time len is_time (omega (arith, small)) (body_legal ids known fact fits) short in
    let found : Result FactValue Reason → Result (Found × ℕ) ParseStop = λ read. found_fact header read (9 + len) in
    ap (item_at longest (Between header)) (append_assoc front body rest)
    ∙ head_item longest header FactRecord head (body ++ rest) right (kind_of_fact known)
    ∙ cond-false (ltb (length all) (9 + len)) (Err Short) (found (body_at ids tag (take len (drop 9 all))))
    (le-ltb _ _ (omega (arith, length-append front (body ++ rest), length-append body rest)))
    ∙ ap (λ (b : List ℕ). found (body_at ids tag b)) (take_at body rest len refl)
    ∙ ap (λ (o : Option RecordTag). found (body_as ids o body)) (record_code_again known)
    ∙ ap found (record_again ids known fact fits)
    ∙ ap (λ (n : ℕ). Ok (record { next = Between header; facts = fact ∷ [] }, n)) (sym (length-record tag time body))

-- the head of a heap dump is found
dump_item_again : (longest : ℕ) (header : Header) (tag time len : ℕ) (rest : List ℕ) → is_dump_tag tag ≡ true → time < 256 ^ 4
    → len ≤ longest_body
    → item_at longest (Between header) (head_bytes tag time len ++ rest) ≡ Ok (record { next = place_in header len; facts = [] }, 9)
dump_item_again longest header tag time len rest is is_time small =
    let kind = dump_kind tag is in
    let head : Head = record { tag = tag; time = time; length = len } in
    let right : IsRightHead header.ids longest head =
    other_head_right header.ids longest tag time len (dump_is_no_fact tag kind.0) kind.1 is_time (omega (arith, small))
    (any_legal tag len (dump_is_no_end tag is)) in
    head_item longest header HeapDump head rest right kind.0

-- a HEAP_DUMP_END is found
end_item_again : (longest : ℕ) (header : Header) (time : ℕ) (rest : List ℕ) → time < 256 ^ 4
    → item_at longest (Between header) (head_bytes 0x2c time 0 ++ rest) ≡ Ok (record { next = Between header; facts = [] }, 9)
end_item_again longest header time rest is_time =
    let head : Head = record { tag = 0x2c; time = time; length = 0 } in
    let right : IsRightHead header.ids longest head =
    record { tag = omega arith; time = is_time; length = omega arith; legal = refl; taken = refl } in
    head_item longest header DumpEnd head rest right refl

-- a record that is passed over is found
skipped_item_again : (longest : ℕ) (header : Header) (tag time : ℕ) (body rest : List ℕ) → kind_of tag ≡ Skipped → tag < 256
    → time < 256 ^ 4 → length body ≤ longest_body
    → item_at longest (Between header) (record_bytes tag time body ++ rest)
    ≡ Ok (record { next = Between header; facts = [] }, length (record_bytes tag time body))
skipped_item_again longest header tag time body rest kind is_tag is_time small =
    let len : ℕ = length body in
    let front : List ℕ = head_bytes tag time len in
    let all : List ℕ = front ++ (body ++ rest) in
    let head : Head = record { tag = tag; time = time; length = len } in
    let right : IsRightHead header.ids longest head =
    other_head_right header.ids longest tag time len (skipped_is_no_fact tag kind) is_tag is_time (omega (arith, small))
    (any_legal tag len (skipped_is_no_end tag kind)) in
    ap (item_at longest (Between header)) (append_assoc front body rest)
    ∙ head_item longest header Skipped head (body ++ rest) right kind
    ∙ cond-false (ltb (length all) (9 + len)) (Err Short) (Ok (record { next = Between header; facts = [] }, 9 + len))
    (le-ltb _ _ (omega (arith, length-append front (body ++ rest), length-append body rest)))
    ∙ ap (λ (n : ℕ). Ok (record { next = Between header; facts = [] }, n)) (sym (length-record tag time body))

-- a sub-record is found
sub_item_again : (longest : ℕ) (header : Header) (room : ℕ) (fact : FactValue) (rest : List ℕ) → IsSubFact header.ids fact
    → length (dump_bytes header.ids fact) ≤ room
    → length (dump_bytes header.ids fact) ≤ longest
    → item_at longest (Within header room) (dump_bytes header.ids fact ++ rest)
    ≡ Ok ((behind_sub header room fact (length (dump_bytes header.ids fact))), length (dump_bytes header.ids fact))
unfolding item_at
sub_item_again longest header room fact rest states in_room in_longest =
    let front : List ℕ = dump_bytes header.ids fact in
    let lies : IsWithin (bounds_within room longest (front ++ rest)) (length front) =
    record { room = in_room; longest = in_longest; there = omega (arith, length-append front rest) } in
    ap (found_sub header room) (sub_again header.ids (bounds_within room longest (front ++ rest)) fact rest (front ++ rest)
    (sub_fits header.ids fact states).0 refl lies)

-- any item is found
any_item_again : (longest : ℕ) (place : Place) (one : Stated) (next : Place) (rest : List ℕ) → IsItem longest place one next
    → IsAgain longest place next one rest
any_item_again longest place one next rest (is_header {header = header} fits spelled facts) =
    again_by longest place next one (header_bytes header) rest [] spelled facts (header_item_again longest header rest fits)
any_item_again longest place one next rest (is_fact {header = header} {fact = fact} states short facts) =
    let fits = record_fits header.ids states.tag fact states.is states.fits in
    let body : List ℕ = record_body header.ids states.tag fact in
    let in_longest : length body ≤ longest =
    omega (arith, short, ap length states.spelled, length-record (code_of_record states.tag) states.time body) in
    again_by longest place next one (record_bytes (code_of_record states.tag) states.time body) rest (fact ∷ []) states.spelled facts
    (fact_item_again longest header states.tag states.time fact rest fits.0 states.is_time fits.1 in_longest)
any_item_again longest place one next rest (is_dump_end {header = header} ends facts) =
    again_by longest place next one (head_bytes 0x2c ends.time 0) rest [] (ends.spelled ∙ append-nil (head_bytes 0x2c ends.time 0)) facts
    (end_item_again longest header ends.time rest ends.is_time)
any_item_again longest place one next rest (is_dump {header = header} {tag = tag} {time = time}
    {len = len} is is_time small spelled facts) =
    again_by longest place next one (head_bytes tag time len) rest [] spelled facts
    (dump_item_again longest header tag time len rest is is_time small)
any_item_again longest place one next rest (is_sub {header = header} {room = room} {fact = fact} states spelled in_room in_longest facts) =
    let size : length one.bytes ≡ length (dump_bytes header.ids fact) = ap length spelled in
    again_by longest place next one (dump_bytes header.ids fact) rest (fact ∷ []) spelled facts
    (sub_item_again longest header room fact rest states (omega (arith, size, in_room)) (omega (arith, size, in_longest))
    ∙ ap (λ (k : ℕ). Ok ((behind_sub header room fact k), length (dump_bytes header.ids fact))) (sym size))
any_item_again longest place one next rest (is_skipped {header = header} states facts) =
    again_by longest place next one (record_bytes states.tag states.time states.body) rest [] states.spelled facts
    (skipped_item_again longest header states.tag states.time states.body rest states.passed_over states.is_tag states.is_time states.short)

-- an item is found at the front, whatever follows
pub item_again : (longest : ℕ) (place next : Place) (one : Stated) (rest : List ℕ) → IsItem longest place one next
    → item_at longest place (one.bytes ++ rest) ≡ Ok (record { next = next; facts = one.facts }, length one.bytes)
item_again longest place next one rest is = any_item_again longest place one next rest is
