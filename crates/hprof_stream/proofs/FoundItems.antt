-- What a reading finds at the front of some bytes is the item that stands there, by what it is.
use Rattle.std.proofs.Common.{◌≡◌, ℕ, ◌+◌, ◌-◌, ◌^◌, ◌<◌, ◌≤◌, true, List, [], ◌∷◌, ◌++◌, length, take, drop, Option, Some, Result, Ok, Err}
use Rattle.std.proofs.Common.{refl, sym, ap, subst, ◌∙◌, append-nil, arith}
use Rattle.std.proofs.lemmas.List.{take_at, length-append, length-take, length-drop}
use Rattle.std.proofs.Math.Seq.{take-append-add}
use Rattle.hprof_values.specs.declared.ids.IdSize.{IdSize}
use Rattle.hprof_values.specs.declared.record_tag.RecordTag.{RecordTag}
use Rattle.hprof_values.specs.declared.reason.Reason.{Reason}
use Rattle.hprof_values.specs.declared.parse_stop.ParseStop.{ParseStop}
use Rattle.hprof_values.specs.declared.parse_stop.ParseStop.TheVariants as stops
use Rattle.hprof_values.specs.Ids.{IsBytes}
use Rattle.hprof_values.specs.RecordTag.{code_of_record, record_of_code}
use Rattle.hprof_values.proofs.Numbers.{IsBytes-drop, IsBytes-take}
use Rattle.hprof_items.specs.declared.header.Header.{Header}
use Rattle.hprof_items.specs.declared.head.Head.{Head}
use Rattle.hprof_items.specs.declared.head.HeadKind.{HeadKind}
use Rattle.hprof_items.specs.declared.head.HeadKind.TheVariants.{FactRecord, HeapDump, DumpEnd, Skipped}
use Rattle.hprof_items.specs.FactValue.{FactValue}
use Rattle.hprof_items.specs.Header.{header_bytes}
use Rattle.hprof_items.specs.Head.{kind_of, head_bytes, record_bytes}
use Rattle.hprof_items.specs.Reading.{header_at, head_at, body_at, body_as, IsRightHead}
use Rattle.hprof_items.specs.RecordBody.{is_legal_body, record_body, record_at}
use Rattle.hprof_items.specs.Spelling.{longest_body}
use Rattle.hprof_items.specs.SubRecord.{dump_bytes, sub_at, IsSubOf}
use Rattle.hprof_items.specs.SubReading.{bounds_within}
use Rattle.hprof_items.proofs.Steps.{long_enough, whole_parts}
use Rattle.hprof_items.proofs.Headers.{header_found}
use Rattle.hprof_items.proofs.Heads.{head_found, fact_head}
use Rattle.hprof_items.proofs.RecordBodies.{record_found}
use Rattle.hprof_items.proofs.Dumps.{sub_found}
use Rattle.hprof_items.proofs.Steps.{whole_parts}
use Rattle.hprof_stream.specs.Record.{IsFactRecord, IsEndRecord, IsSubFact, IsSkippedRecord}
use Rattle.hprof_stream.specs.Part.{Stated}
use Rattle.hprof_stream.specs.Item.{Place, Start, Between, Within, place_in, Found, IsItem, is_header, is_fact, is_dump_end, is_dump}
use Rattle.hprof_stream.specs.Item.{is_sub, is_skipped, found_header, found_fact, found_record, found_behind, found_sub}
use Rattle.hprof_stream.proofs.Tags.{code_is, dump_tag, end_tag, fact_taken, end_is_empty}
use Rattle.hprof_stream.proofs.SubFacts.{sub_some, sub_fact, record_fact}
use Rattle.hprof_stream.proofs.Lengths.{length-header}

-- ---- answers

-- a header that was found
header_step : (step : Result (Header × ℕ) ParseStop) (found : Found) (n : ℕ) → found_header step ≡ Ok (found, n)
    → (header : Header) × (step ≡ Ok (header, n)) × (record { next = Between header; facts = [] } ≡ found)
header_step (Ok (header, m)) found n e =
    let parts = whole_parts _ found m n e in (header, ap (λ (end : ℕ). Ok (header, end)) parts.1, parts.0)
header_step (Err stop) found n e = absurd cc

-- a head that was found
head_step : (header : Header) (step : Result (Head × ℕ) ParseStop) (bytes : List ℕ) (found : Found) (n : ℕ)
    → found_behind header step bytes ≡ Ok (found, n)
    → (head : Head) × (m : ℕ) × (step ≡ Ok (head, m)) × (found_record header (kind_of head.tag) head bytes ≡ Ok (found, n))
head_step header (Ok (head, m)) bytes found n e = (head, m, refl, e)
head_step header (Err stop) bytes found n e = absurd cc

-- a fact that was found
fact_step : (header : Header) (read : Result FactValue Reason) (m : ℕ) (found : Found) (n : ℕ) → found_fact header read m ≡ Ok (found, n)
    → (fact : FactValue) × (read ≡ Ok fact) × (m ≡ n) × (record { next = Between header; facts = fact ∷ [] } ≡ found)
fact_step header (Ok fact) m found n e = let parts = whole_parts _ found m n e in (fact, refl, parts.1, parts.0)
fact_step header (Err reason) m found n e = absurd cc

-- what a sub-record leads to
abbrev pub behind_sub : Header → ℕ → FactValue → ℕ → Found
behind_sub header room fact n = record { next = place_in header (room - n); facts = fact ∷ [] }

-- a sub-record that was found
pub sub_step : (header : Header) (room : ℕ) (read : Result (FactValue × ℕ) ParseStop) (found : Found) (n : ℕ)
    → found_sub header room read ≡ Ok (found, n)
    → (fact : FactValue) × (read ≡ Ok (fact, n)) × (behind_sub header room fact n ≡ found)
sub_step header room (Ok read) found n e =
    let same = whole_parts (behind_sub header room read.0 read.1) found read.1 n e in
    let same_read : Result (FactValue × ℕ) ParseStop = Ok read in
    subst (λ (m : ℕ). (fact : FactValue) × (same_read ≡ Ok (fact, m)) × (behind_sub header room fact m ≡ found)) same.1
    (read.0, refl, same.0)
sub_step header room (Err stop) found n e = absurd cc

-- bytes that have a front of that length
front_parts : (front bytes : List ℕ) (n : ℕ) → length front ≡ n → bytes ≡ front ++ drop n bytes
    → (n ≤ length bytes) × (take n bytes ≡ front)
front_parts front bytes n len e =
    (omega (arith, len, ap length e, length-append front (drop n bytes)), ap (take n) e ∙ take_at front (drop n bytes) n len)

-- a record at the front: its head, and as many bytes as the head says
record_parts : (tag time len : ℕ) (bytes : List ℕ) → bytes ≡ head_bytes tag time len ++ drop 9 bytes → 9 + len ≤ length bytes
    → take (9 + len) bytes ≡ head_bytes tag time len ++ take len (drop 9 bytes)
record_parts tag time len bytes e long =
    ap (take (9 + len)) e ∙ take-append-add (head_bytes tag time len) (drop 9 bytes) len

-- what was found is an item of some of the bytes
abbrev pub IsFound : ℕ → Place → List ℕ → Found → ℕ → Type 0
IsFound longest place bytes found n =
    (n ≤ length bytes) × (0 < n) × IsItem longest place (record { bytes = take n bytes; facts = found.facts }) found.next

-- so is what equals it
same_found : (longest : ℕ) (place : Place) (bytes : List ℕ) (made found : Found) (m n : ℕ) → made ≡ found → m ≡ n
    → IsFound longest place bytes made m → IsFound longest place bytes found n
same_found longest place bytes made found m n e k is =
    subst (λ (f : Found). IsFound longest place bytes f n) e (subst (λ (i : ℕ). IsFound longest place bytes made i) k is)

-- ---- items

-- a header that was found is an item
pub found_header_item : (longest : ℕ) (bytes : List ℕ) (found : Found) (n : ℕ) → IsBytes bytes → found_header (header_at bytes)
    ≡ Ok (found, n)
    → IsFound longest Start bytes found n
found_header_item longest bytes found n are e =
    let step = header_step (header_at bytes) found n e in
    let read = header_found bytes step.0 n are step.1 in
    let parts = front_parts (header_bytes step.0) bytes n (length-header step.0 ∙ sym read.1) read.0 in
    same_found longest Start bytes (record { next = Between step.0; facts = [] }) found n n step.2 refl
    (parts.0, omega (arith, read.1), is_header read.2 parts.1 refl)

-- the record of a fact that was found
fact_states : (ids : IdSize) (tag time len : ℕ) (known : RecordTag) (bytes : List ℕ) (fact : FactValue) → IsBytes bytes → time < 256 ^ 4
    → len < 256 ^ 4
    → record_of_code tag ≡ Some known → is_legal_body ids known len ≡ true → bytes ≡ head_bytes tag time len ++ drop 9 bytes
    → 9 + len ≤ length bytes
    → body_at ids tag (take len (drop 9 bytes)) ≡ Ok fact → IsFactRecord ids (take (9 + len) bytes) fact
fact_states ids tag time len known bytes fact are is_time below code legal spelled long e =
    let body : List ℕ = take len (drop 9 bytes) in
    let size : length body ≡ len = omega (arith, long, length-take len (drop 9 bytes), length-drop 9 bytes) in
    let read : record_at ids known body ≡ Ok fact = ap (λ (o : Option RecordTag). body_as ids o body) (sym code) ∙ e in
    let found = record_found ids known body fact (IsBytes-take len (drop 9 bytes) (IsBytes-drop 9 bytes are))
    (ap (is_legal_body ids known) size ∙ legal) read in
    let fits = found.0 in
    let small : length (record_body ids known fact) ≤ longest_body = omega (arith, size, below, ap length found.1) in
    record {
      tag = known;
      is = fits.is;
      fits = record_fact ids known fact fits small;
      time = time;
      is_time = is_time;
      spelled = record_parts tag time len bytes spelled long ∙ ap (λ (k : ℕ). head_bytes tag time k ++ body) (sym size)
          ∙ ap (λ (t : ℕ). record_bytes t time body) (code_is tag known code) ∙ ap (record_bytes (code_of_record known) time) found.1;
    }

-- what is at the front of a record's bytes
abbrev IsHeaded : Head → List ℕ → Type 0
IsHeaded head bytes = bytes ≡ head_bytes head.tag head.time head.length ++ drop 9 bytes

-- a record of a fact that was found is an item
found_fact_item : (longest : ℕ) (header : Header) (head : Head) (bytes : List ℕ) (found : Found) (n : ℕ) → IsBytes bytes
    → kind_of head.tag ≡ FactRecord → IsRightHead header.ids longest head
    → IsHeaded head bytes → found_record header FactRecord head bytes ≡ Ok (found, n) → IsFound longest (Between header) bytes found n
found_fact_item longest header head bytes found n are kind right spelled e =
    let len : ℕ = head.length in
    let read : Result FactValue Reason = body_at header.ids head.tag (take len (drop 9 bytes)) in
    let long = long_enough (length bytes) (9 + len) (found_fact header read (9 + len)) found n e in
    let step = fact_step header read (9 + len) found n long.1 in
    let tag = fact_head header.ids longest head right kind in
    let states = fact_states header.ids head.tag head.time len tag.0 bytes step.0 are right.time right.length tag.1 tag.2 spelled long.0
    step.1 in
    let taken : len ≤ longest = fact_taken longest head kind right.taken in
    let fits : length (take (9 + len) bytes) ≤ 9 + longest = omega (arith, taken, length-take (9 + len) bytes) in
    same_found longest (Between header) bytes (record { next = Between header; facts = step.0 ∷ [] }) found (9 + len) n step.3 step.2
    (long.0, omega arith, is_fact states fits refl)

-- the head of a heap dump that was found is an item
found_dump_item : (longest : ℕ) (header : Header) (head : Head) (bytes : List ℕ) (found : Found) (n : ℕ) → kind_of head.tag ≡ HeapDump
    → IsRightHead header.ids longest head
    → IsHeaded head bytes → found_record header HeapDump head bytes ≡ Ok (found, n) → IsFound longest (Between header) bytes found n
found_dump_item longest header head bytes found n kind right spelled e =
    let made : Found = record { next = place_in header head.length; facts = [] } in
    let same = whole_parts made found 9 n e in
    let parts = front_parts (head_bytes head.tag head.time head.length) bytes 9 refl spelled in
    same_found longest (Between header) bytes made found 9 n same.0 same.1
    (parts.0, omega arith, is_dump (dump_tag head.tag kind) right.time (omega (arith, right.length)) parts.1 refl)

-- a HEAP_DUMP_END that was found is an item
found_end_item : (longest : ℕ) (header : Header) (head : Head) (bytes : List ℕ) (found : Found) (n : ℕ) → kind_of head.tag ≡ DumpEnd
    → IsRightHead header.ids longest head
    → IsHeaded head bytes → found_record header DumpEnd head bytes ≡ Ok (found, n) → IsFound longest (Between header) bytes found n
found_end_item longest header head bytes found n kind right spelled e =
    let made : Found = record { next = Between header; facts = [] } in
    let same = whole_parts made found 9 n e in
    let parts = front_parts (head_bytes head.tag head.time head.length) bytes 9 refl spelled in
    let states : IsEndRecord (take 9 bytes) = record {
      time = head.time;
      is_time = right.time;
      spelled = parts.1 ∙ ap (λ (t : ℕ). head_bytes t head.time head.length) (end_tag head.tag kind)
          ∙ ap (head_bytes 0x2c head.time) (end_is_empty header.ids longest head kind right)
          ∙ sym (append-nil (head_bytes 0x2c head.time 0));
    } in
    same_found longest (Between header) bytes made found 9 n same.0 same.1 (parts.0, omega arith, is_dump_end states refl)

-- a record that was passed over is an item
found_skipped_item : (longest : ℕ) (header : Header) (head : Head) (bytes : List ℕ) (found : Found) (n : ℕ) → IsBytes bytes
    → kind_of head.tag ≡ Skipped → IsRightHead header.ids longest head
    → IsHeaded head bytes → found_record header Skipped head bytes ≡ Ok (found, n) → IsFound longest (Between header) bytes found n
found_skipped_item longest header head bytes found n are kind right spelled e =
    let len : ℕ = head.length in
    let body : List ℕ = take len (drop 9 bytes) in
    let made : Found = record { next = Between header; facts = [] } in
    let long = long_enough (length bytes) (9 + len) (Ok (made, 9 + len)) found n e in
    let same = whole_parts made found (9 + len) n long.1 in
    let size : length body ≡ len = omega (arith, long.0, length-take len (drop 9 bytes), length-drop 9 bytes) in
    let states : IsSkippedRecord (take (9 + len) bytes) = record {
      tag = head.tag;
      is_tag = right.tag;
      passed_over = kind;
      time = head.time;
      is_time = right.time;
      body = body;
      are_bytes = IsBytes-take len (drop 9 bytes) (IsBytes-drop 9 bytes are);
      short = omega (arith, size, right.length);
      spelled = record_parts head.tag head.time len bytes spelled long.0
          ∙ ap (λ (k : ℕ). head_bytes head.tag head.time k ++ body) (sym size);
    } in
    same_found longest (Between header) bytes made found (9 + len) n same.0 same.1 (long.0, omega arith, is_skipped states refl)

-- a record that was found is an item, by its kind
found_kind_item : (longest : ℕ) (header : Header) (kind : HeadKind) (head : Head) (bytes : List ℕ) (found : Found) (n : ℕ) → IsBytes bytes
    → kind_of head.tag ≡ kind → IsRightHead header.ids longest head
    → IsHeaded head bytes → found_record header kind head bytes ≡ Ok (found, n) → IsFound longest (Between header) bytes found n
found_kind_item longest header FactRecord head bytes found n are kind right spelled e =
    found_fact_item longest header head bytes found n are kind right spelled e
found_kind_item longest header HeapDump head bytes found n are kind right spelled e =
    found_dump_item longest header head bytes found n kind right spelled e
found_kind_item longest header DumpEnd head bytes found n are kind right spelled e =
    found_end_item longest header head bytes found n kind right spelled e
found_kind_item longest header Skipped head bytes found n are kind right spelled e =
    found_skipped_item longest header head bytes found n are kind right spelled e

-- a record that was found is an item
pub found_record_item : (longest : ℕ) (header : Header) (bytes : List ℕ) (found : Found) (n : ℕ) → IsBytes bytes
    → found_behind header (head_at header.ids longest bytes) bytes ≡ Ok (found, n)
    → IsFound longest (Between header) bytes found n
found_record_item longest header bytes found n are e =
    let step = head_step header (head_at header.ids longest bytes) bytes found n e in
    let head = step.0 in
    let read = head_found header.ids longest bytes head step.1 are step.2 in
    let spelled : IsHeaded head bytes = read.0 ∙ ap (λ (k : ℕ). head_bytes head.tag head.time head.length ++ drop k bytes) read.1 in
    found_kind_item longest header (kind_of head.tag) head bytes found n are refl read.2 spelled step.3

-- a sub-record that was found is an item
pub found_sub_item : (longest : ℕ) (header : Header) (room : ℕ) (bytes : List ℕ) (found : Found) (n : ℕ) → IsBytes bytes
    → room ≤ longest_body
    → found_sub header room (sub_at header.ids (bounds_within room longest bytes) bytes) ≡ Ok (found, n)
    → IsFound longest (Within header room) bytes found n
found_sub_item longest header room bytes found n are small e =
    let step = sub_step header room (sub_at header.ids (bounds_within room longest bytes) bytes) found n e in
    let fact = step.0 in
    let read : IsSubOf header.ids (bounds_within room longest bytes) bytes fact n =
    sub_found header.ids (bounds_within room longest bytes) bytes fact n are (omega arith) step.1 in
    let parts = front_parts (dump_bytes header.ids fact) bytes n (sym read.ends) read.spelled in
    let size : length (take n bytes) ≡ n = omega (arith, parts.0, length-take n bytes) in
    let states : IsSubFact header.ids fact = sub_fact header.ids fact read.fits (omega (arith, read.ends, read.within.room, small)) in
    let one : Stated = record { bytes = take n bytes; facts = fact ∷ [] } in
    let item : IsItem longest (Within header room) one (place_in header (room - length (take n bytes))) =
    is_sub states parts.1 (omega (arith, size, read.within.room)) (omega (arith, size, read.within.longest)) refl in
    same_found longest (Within header room) bytes (behind_sub header room fact n) found n n step.2 refl (
      parts.0,
      omega (arith, read.ends, sub_some header.ids fact read.fits),
      subst (λ (k : ℕ). IsItem longest (Within header room) one (place_in header (room - k))) size item,
    )
