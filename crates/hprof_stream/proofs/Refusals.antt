-- What is found or refused stays so, whatever bytes follow, and what is short of bytes is short itself.
use Rattle.std.proofs.Common.{◌≡◌, ℕ, ◌+◌, ◌<◌, ◌≤◌, max, true, false, cond, ltb, List, [], ◌++◌, length, take, drop, slice_index, Option}
use Rattle.std.proofs.Common.{Some, None, Result, Ok, Err, refl, inl, inr, sym, ap, subst, ◌∙◌, arith}
use Rattle.std.proofs.lemmas.Bool.{cond-false, cond_both, le-ltb, ltb-false, ltb-true}
use Rattle.std.proofs.lemmas.List.{take-append-le, drop-append-le, length-append, length-drop}
use Rattle.hprof_values.specs.declared.ids.IdSize.{IdSize}
use Rattle.hprof_values.specs.declared.reason.Reason.{Reason}
use Rattle.hprof_values.specs.declared.reason.Reason.TheVariants.{BadLength}
use Rattle.hprof_values.specs.declared.record_tag.RecordTag.{RecordTag}
use Rattle.hprof_values.specs.declared.record_tag.RecordTag.TheVariants as tags
use Rattle.hprof_values.specs.declared.parse_stop.ParseStop.{ParseStop}
use Rattle.hprof_values.specs.declared.parse_stop.ParseStop.TheVariants as stops
use Rattle.hprof_values.specs.FieldGroups.{Bounds}
use Rattle.hprof_values.specs.RecordTag.{record_of_code}
use Rattle.hprof_items.specs.declared.header.Header.{Header}
use Rattle.hprof_items.specs.declared.header.Version.{Version}
use Rattle.hprof_items.specs.declared.head.Head.{Head}
use Rattle.hprof_items.specs.declared.head.HeadKind.{HeadKind}
use Rattle.hprof_items.specs.declared.head.HeadKind.TheVariants.{FactRecord, HeapDump, DumpEnd, Skipped}
use Rattle.hprof_items.specs.FactValue.{FactValue}
use Rattle.hprof_items.specs.Head.{kind_of}
use Rattle.hprof_items.specs.Reading.{version_of, ids_of, timed_header, sized_header, header_at, judged_head, head_at, body_as, body_at}
use Rattle.hprof_items.specs.Reading.{is_legal, is_too_long}
use Rattle.hprof_items.specs.RecordBody.{record_at}
use Rattle.hprof_items.specs.SubReading.{bounds_within}
use Rattle.hprof_items.specs.SubRecord.{sub_at}
use Rattle.hprof_items.proofs.Steps.{went_on}
use Rattle.hprof_items.proofs.WalksMore.{byte_more, number_more, IsSettled}
use Rattle.hprof_items.proofs.WalksReads.{sub_more}
use Rattle.hprof_stream.specs.Item.{Place, Start, Between, Within, Found, found_header, found_fact, found_record, found_behind, found_sub}
use Rattle.hprof_stream.specs.Item.{item_at, is_skipped_kind, is_skipped_head, held_of}
use Rattle.hprof_stream.specs.Fault.{is_lasting}
use Rattle.hprof_stream.proofs.Stops.{number, StopsIn, sub_stops}
use Rattle.hprof_stream.proofs.Tags.{fact_taken}

-- ---- bytes behind what is judged

-- a header whose text and size were judged
timed_stays : (version : Version) (size : Option IdSize) (bytes more : List ℕ) (step : Result (Header × ℕ) ParseStop)
    → (Err stops.Short ≡ step → ⊥)
    → timed_header version size bytes ≡ step → timed_header version size (bytes ++ more) ≡ step
timed_stays version None bytes more step never e = e
timed_stays version (Some ids) bytes more step never e =
    let made : ℕ → Result (Header × ℕ) ParseStop = λ millis. Ok (record { version = version; ids = ids; millis = millis }, 31) in
    let g = went_on (ltb (length bytes) 31) (Err stops.Short) (made (number 8 (drop 23 bytes))) step never e in
    let long : 31 ≤ length bytes = ltb-false (length bytes) 31 g.0 in
    cond-false (ltb (length (bytes ++ more)) 31) (Err stops.Short) (made (number 8 (drop 23 (bytes ++ more))))
    (le-ltb _ _ (omega (arith, length-append bytes more)))
    ∙ ap made (number_more 8 23 bytes more long) ∙ g.1

-- a header whose text was judged
sized_stays : (text : Option Version) (bytes more : List ℕ) (step : Result (Header × ℕ) ParseStop) → (Err stops.Short ≡ step → ⊥)
    → sized_header text bytes ≡ step
    → sized_header text (bytes ++ more) ≡ step
sized_stays None bytes more step never e = e
sized_stays (Some version) bytes more step never e =
    let size : Option IdSize = ids_of (number 4 (drop 19 bytes)) in
    let size_more : Option IdSize = ids_of (number 4 (drop 19 (bytes ++ more))) in
    let g = went_on (ltb (length bytes) 23) (Err stops.Short) (timed_header version size bytes) step never e in
    let long : 23 ≤ length bytes = ltb-false (length bytes) 23 g.0 in
    cond-false (ltb (length (bytes ++ more)) 23) (Err stops.Short) (timed_header version size_more (bytes ++ more))
    (le-ltb _ _ (omega (arith, length-append bytes more)))
    ∙ ap (λ (k : ℕ). timed_header version (ids_of k) (bytes ++ more)) (number_more 4 19 bytes more long)
    ∙ timed_stays version size bytes more step never g.1

-- a header
pub header_stays : (bytes more : List ℕ) (step : Result (Header × ℕ) ParseStop) → (Err stops.Short ≡ step → ⊥) → header_at bytes ≡ step
    → header_at (bytes ++ more) ≡ step
unfolding header_at
header_stays bytes more step never e =
    let g = went_on (ltb (length bytes) 19) (Err stops.Short) (sized_header (version_of (take 19 bytes)) bytes) step never e in
    let long : 19 ≤ length bytes = ltb-false (length bytes) 19 g.0 in
    cond-false (ltb (length (bytes ++ more)) 19) (Err stops.Short) (sized_header (version_of (take 19 (bytes ++ more))) (bytes ++ more))
    (le-ltb _ _ (omega (arith, length-append bytes more)))
    ∙ ap (λ (t : List ℕ). sized_header (version_of t) (bytes ++ more)) (take-append-le 19 bytes more long)
    ∙ sized_stays (version_of (take 19 bytes)) bytes more step never g.1

-- a head that is judged
pub head_stays : (ids : IdSize) (longest : ℕ) (bytes more : List ℕ) (step : Result (Head × ℕ) ParseStop) → (Err stops.Short ≡ step → ⊥)
    → head_at ids longest bytes ≡ step → head_at ids longest (bytes ++ more) ≡ step
unfolding head_at
head_stays ids longest bytes more step never e =
    let judged : ℕ → ℕ → ℕ → Result (Head × ℕ) ParseStop = λ tag time len. judged_head ids longest
    (record { tag = tag; time = time; length = len }) in
    let all : List ℕ = bytes ++ more in
    let g = went_on (ltb (length bytes) 9) (Err stops.Short) (judged (slice_index bytes 0) (number 4 (drop 1 bytes))
    (number 4 (drop 5 bytes))) step never e in
    let long : 9 ≤ length bytes = ltb-false (length bytes) 9 g.0 in
    cond-false (ltb (length all) 9) (Err stops.Short) (judged (slice_index all 0) (number 4 (drop 1 all)) (number 4 (drop 5 all)))
    (le-ltb _ _ (omega (arith, length-append bytes more)))
    ∙ ap (λ (tag : ℕ). judged tag (number 4 (drop 1 all)) (number 4 (drop 5 all))) (byte_more bytes more 0 (omega arith))
    ∙ ap (λ (time : ℕ). judged (slice_index bytes 0) time (number 4 (drop 5 all))) (number_more 4 1 bytes more (omega arith))
    ∙ ap (λ (len : ℕ). judged (slice_index bytes 0) (number 4 (drop 1 bytes)) len) (number_more 4 5 bytes more (omega arith))
    ∙ g.1

-- a record whose head was read
pub record_stays : (header : Header) (kind : HeadKind) (head : Head) (bytes more : List ℕ) (step : Result (Found × ℕ) ParseStop)
    → (Err stops.Short ≡ step → ⊥)
    → found_record header kind head bytes ≡ step → found_record header kind head (bytes ++ more) ≡ step
record_stays header FactRecord head bytes more step never e =
    let all : List ℕ = bytes ++ more in
    let len : ℕ = head.length in
    let found : List ℕ → Result (Found × ℕ) ParseStop = λ body. found_fact header (body_at header.ids head.tag body) (9 + len) in
    let g = went_on (ltb (length bytes) (9 + len)) (Err stops.Short) (found (take len (drop 9 bytes))) step never e in
    let long : 9 + len ≤ length bytes = ltb-false (length bytes) (9 + len) g.0 in
    let body : take len (drop 9 all) ≡ take len (drop 9 bytes) =
    ap (take len) (drop-append-le 9 bytes more (omega arith))
    ∙ take-append-le len (drop 9 bytes) more (omega (arith, length-drop 9 bytes)) in
    cond-false (ltb (length all) (9 + len)) (Err stops.Short) (found (take len (drop 9 all)))
    (le-ltb _ _ (omega (arith, length-append bytes more)))
    ∙ ap found body ∙ g.1
record_stays header HeapDump head bytes more step never e = e
record_stays header DumpEnd head bytes more step never e = e
record_stays header Skipped head bytes more step never e =
    let len : ℕ = head.length in
    let last : Result (Found × ℕ) ParseStop = Ok (record { next = Between header; facts = [] }, 9 + len) in
    let g = went_on (ltb (length bytes) (9 + len)) (Err stops.Short) last step never e in
    let long : 9 + len ≤ length bytes = ltb-false (length bytes) (9 + len) g.0 in
    cond-false (ltb (length (bytes ++ more)) (9 + len)) (Err stops.Short) last (le-ltb _ _ (omega (arith, length-append bytes more))) ∙ g.1

-- what stands behind a header
behind_stays : (header : Header) (read : Result (Head × ℕ) ParseStop) (bytes more : List ℕ) (step : Result (Found × ℕ) ParseStop)
    → (Err stops.Short ≡ step → ⊥)
    → found_behind header read bytes ≡ step → found_behind header read (bytes ++ more) ≡ step
behind_stays header (Ok (head, n)) bytes more step never e = record_stays header (kind_of head.tag) head bytes more step never e
behind_stays header (Err stop) bytes more step never e = e

-- a step behind a header, by what its head is
head_cases : (longest : ℕ) (header : Header) (bytes more : List ℕ) (step : Result (Found × ℕ) ParseStop)
    (read : Result (Head × ℕ) ParseStop)
    → (Err stops.Short ≡ step → ⊥)
    → head_at header.ids longest bytes ≡ read → found_behind header read bytes ≡ step
    → found_behind header (head_at header.ids longest (bytes ++ more)) (bytes ++ more) ≡ step
head_cases longest header bytes more step (Ok (head, n)) never is e =
    ap (λ (r : Result (Head × ℕ) ParseStop). found_behind header r (bytes ++ more))
    (head_stays header.ids longest bytes more (Ok (head, n)) (λ q. cc) is)
    ∙ behind_stays header (Ok (head, n)) bytes more step never e
head_cases longest header bytes more step (Err stops.Short) never is e = absurd (never e)
head_cases longest header bytes more step (Err stops.TooLong) never is e =
    ap (λ (r : Result (Head × ℕ) ParseStop). found_behind header r (bytes ++ more))
    (head_stays header.ids longest bytes more (Err stops.TooLong) (λ q. cc) is) ∙ e
head_cases longest header bytes more step (Err (stops.Fault reason)) never is e =
    ap (λ (r : Result (Head × ℕ) ParseStop). found_behind header r (bytes ++ more))
    (head_stays header.ids longest bytes more (Err (stops.Fault reason)) (λ q. cc) is) ∙ e

-- what stands at the first byte, by what its header is
start_cases : (bytes more : List ℕ) (step : Result (Found × ℕ) ParseStop) (read : Result (Header × ℕ) ParseStop)
    → (Err stops.Short ≡ step → ⊥)
    → header_at bytes ≡ read
    → found_header read ≡ step → found_header (header_at (bytes ++ more)) ≡ step
start_cases bytes more step (Ok (header, n)) never is e = ap found_header (header_stays bytes more (Ok (header, n)) (λ q. cc) is) ∙ e
start_cases bytes more step (Err stops.Short) never is e = absurd (never e)
start_cases bytes more step (Err stops.TooLong) never is e = ap found_header (header_stays bytes more (Err stops.TooLong) (λ q. cc) is) ∙ e
start_cases bytes more step (Err (stops.Fault reason)) never is e = ap found_header
    (header_stays bytes more (Err (stops.Fault reason)) (λ q. cc) is) ∙ e

-- a sub-record
settled_stays : (header : Header) (room : ℕ) (r s : Result (FactValue × ℕ) ParseStop) (step : Result (Found × ℕ) ParseStop) → IsSettled r s
    → (Err stops.Short ≡ step → ⊥)
    → found_sub header room r ≡ step → found_sub header room s ≡ step
settled_stays header room r s step (inl short) never e = absurd (never (sym (ap (found_sub header room) short) ∙ e))
settled_stays header room r s step (inr same) never e = ap (found_sub header room) same ∙ e

pub sub_stays : (longest : ℕ) (header : Header) (room : ℕ) (bytes more : List ℕ) (step : Result (Found × ℕ) ParseStop)
    → (Err stops.Short ≡ step → ⊥)
    → found_sub header room (sub_at header.ids (bounds_within room longest bytes) bytes) ≡ step
    → found_sub header room (sub_at header.ids (bounds_within room longest (bytes ++ more)) (bytes ++ more)) ≡ step
sub_stays longest header room bytes more step never e =
    let bounds : ℕ → Bounds = λ there. record { room = room; longest = longest; there = there } in
    let longer : ℕ → Result (FactValue × ℕ) ParseStop = λ there. sub_at header.ids (bounds there) (bytes ++ more) in
    ap (λ (n : ℕ). found_sub header room (longer n)) (length-append bytes more)
    ∙ settled_stays header room (sub_at header.ids (bounds_within room longest bytes) bytes) (longer (length bytes + length more)) step
    (sub_more header.ids (bounds_within room longest bytes) bytes more (omega arith)) never e

-- what is found stays, whatever follows, but that bytes are lacking
pub item_settled : (longest : ℕ) (place : Place) (bytes more : List ℕ) (step : Result (Found × ℕ) ParseStop) → (Err stops.Short ≡ step → ⊥)
    → item_at longest place bytes ≡ step → item_at longest place (bytes ++ more) ≡ step
unfolding item_at
item_settled longest Start bytes more step never e = start_cases bytes more step (header_at bytes) never refl e
item_settled longest (Between header) bytes more step never e =
    head_cases longest header bytes more step (head_at header.ids longest bytes) never refl e
item_settled longest (Within header room) bytes more step never e = sub_stays longest header room bytes more step never e

-- so does a fault
pub item_stays : (longest : ℕ) (place : Place) (bytes more : List ℕ) (reason : Reason)
    → item_at longest place bytes ≡ Err (stops.Fault reason)
    → item_at longest place (bytes ++ more) ≡ Err (stops.Fault reason)
item_stays longest place bytes more reason e = item_settled longest place bytes more (Err (stops.Fault reason)) (λ q. cc) e

-- and an item that is too long
pub item_stays_long : (longest : ℕ) (place : Place) (bytes more : List ℕ) → item_at longest place bytes ≡ Err stops.TooLong
    → item_at longest place (bytes ++ more) ≡ Err stops.TooLong
item_stays_long longest place bytes more e = item_settled longest place bytes more (Err stops.TooLong) (λ q. cc) e

-- ---- what each step tells

-- what a step tells, by which step it is; a reason for a fault is always one that lasts
abbrev Tells : {A : Type 0} → (A → Type 0) → Type 0 → Type 0 → Result (A × ℕ) ParseStop → Type 0
Tells whole short long (Ok (value, n)) = whole value
Tells whole short long (Err stops.Short) = short
Tells whole short long (Err stops.TooLong) = long
Tells whole short long (Err (stops.Fault reason)) = is_lasting reason ≡ true

-- a header whose text and size were judged is whole, or there are too few bytes
timed_tells : (version : Version) (size : Option IdSize) (bytes : List ℕ)
    → Tells (λ _. Unit {0}) (length bytes < 31) (Unit {0}) (timed_header version size bytes)
timed_tells version None bytes = refl
timed_tells version (Some ids) bytes =
    cond_both (ltb (length bytes) 31) (Err stops.Short) _ (Tells (λ _. Unit {0}) (length bytes < 31) (Unit {0}))
    (λ t. ltb-true (length bytes) 31 t)
    (λ f. tt)

-- a header whose text was judged
sized_tells : (text : Option Version) (bytes : List ℕ) → Tells (λ _. Unit {0}) (length bytes < 31) (Unit {0}) (sized_header text bytes)
sized_tells None bytes = refl
sized_tells (Some version) bytes =
    cond_both (ltb (length bytes) 23) (Err stops.Short) _ (Tells (λ _. Unit {0}) (length bytes < 31) (Unit {0}))
    (λ t. omega (arith, ltb-true (length bytes) 23 t)) (λ f. timed_tells version _ bytes)

-- a header is short where there are too few bytes
header_tells : (bytes : List ℕ) → Tells (λ _. Unit {0}) (length bytes < 31) (Unit {0}) (header_at bytes)
unfolding header_at
header_tells bytes =
    cond_both (ltb (length bytes) 19) (Err stops.Short) _ (Tells (λ _. Unit {0}) (length bytes < 31) (Unit {0}))
    (λ t. omega (arith, ltb-true (length bytes) 19 t)) (λ f. sized_tells (version_of (take 19 bytes)) bytes)

pub header_short : (bytes : List ℕ) → header_at bytes ≡ Err stops.Short → length bytes < 31
header_short bytes e = subst (Tells (λ _. Unit {0}) (length bytes < 31) (Unit {0})) e (header_tells bytes)

-- a head that is there is no longer than the longest, or refused
judged_tells : (ids : IdSize) (longest : ℕ) (head : Head) (few : Type 0)
    → Tells (λ h. is_too_long longest h ≡ false) few (Unit {0}) (judged_head ids longest head)
judged_tells ids longest head few =
    let P : Result (Head × ℕ) ParseStop → Type 0 = Tells (λ h. is_too_long longest h ≡ false) few (Unit {0}) in
    let last : Result (Head × ℕ) ParseStop = cond (is_too_long longest head) (Err stops.TooLong) (Ok (head, 9)) in
    cond_both (is_legal ids head.tag head.length) last (Err (stops.Fault BadLength)) P
    (λ l. cond_both (is_too_long longest head) (Err stops.TooLong) (Ok (head, 9)) P (λ t. tt) (λ f. f))
    (λ l. refl)

-- a head is short where there are too few bytes
head_tells : (ids : IdSize) (longest : ℕ) (bytes : List ℕ)
    → Tells (λ h. is_too_long longest h ≡ false) (length bytes < 9) (Unit {0}) (head_at ids longest bytes)
unfolding head_at
head_tells ids longest bytes =
    let head : Head = record { tag = slice_index bytes 0; time = number 4 (drop 1 bytes); length = number 4 (drop 5 bytes) } in
    cond_both (ltb (length bytes) 9) (Err stops.Short) (judged_head ids longest head)
    (Tells (λ h. is_too_long longest h ≡ false) (length bytes < 9) (Unit {0})) (λ t. ltb-true (length bytes) 9 t)
    (λ f. judged_tells ids longest head (length bytes < 9))

pub head_short : (ids : IdSize) (longest : ℕ) (bytes : List ℕ) → head_at ids longest bytes ≡ Err stops.Short → length bytes < 9
head_short ids longest bytes e =
    subst (Tells (λ h. is_too_long longest h ≡ false) (length bytes < 9) (Unit {0})) e (head_tells ids longest bytes)

-- a body is refused for a reason that lasts
abbrev Refuses : Result FactValue Reason → Type 0
Refuses (Ok fact) = Unit {0}
Refuses (Err reason) = is_lasting reason ≡ true

body_tells : (ids : IdSize) (known : Option RecordTag) (body : List ℕ) → Refuses (body_as ids known body)
unfolding record_at
body_tells ids None body = refl
body_tells ids (Some tags.Trace) body = cond_both _ (Ok _) (Err BadLength) Refuses (λ t. tt) (λ f. refl)
body_tells ids (Some tags.Utf8) body = tt
body_tells ids (Some tags.LoadClass) body = tt
body_tells ids (Some tags.UnloadClass) body = tt
body_tells ids (Some tags.Frame) body = tt
body_tells ids (Some tags.StartThread) body = tt
body_tells ids (Some tags.EndThread) body = tt

-- what is found says as much; what is short has less than that many bytes
abbrev FoundTells : ℕ → List ℕ → Result (Found × ℕ) ParseStop → Type 0
FoundTells longest held step = Tells (λ _. Unit {0}) (length held < max 31 (9 + longest)) (Unit {0}) step

fact_tells : (longest : ℕ) (header : Header) (read : Result FactValue Reason) (n : ℕ) (held : List ℕ) → Refuses read
    → FoundTells longest held (found_fact header read n)
fact_tells longest header (Ok fact) n held told = tt
fact_tells longest header (Err reason) n held told = told

-- a record whose head was read
record_tells : (longest : ℕ) (header : Header) (kind : HeadKind) (head : Head) (bytes : List ℕ)
    → (kind ≡ FactRecord → head.length ≤ longest)
    → FoundTells longest (cond (is_skipped_kind kind) [] bytes) (found_record header kind head bytes)
record_tells longest header FactRecord head bytes fits =
    let len : ℕ = head.length in
    let short : len ≤ longest = fits refl in
    let body : List ℕ = take len (drop 9 bytes) in
    cond_both (ltb (length bytes) (9 + len)) (Err stops.Short) (found_fact header (body_at header.ids head.tag body) (9 + len))
    (FoundTells longest bytes)
    (λ t. omega (arith, ltb-true (length bytes) (9 + len) t))
    (λ f. fact_tells longest header (body_at header.ids head.tag body) (9 + len) bytes
    (body_tells header.ids (record_of_code head.tag) body))
record_tells longest header HeapDump head bytes fits = tt
record_tells longest header DumpEnd head bytes fits = tt
record_tells longest header Skipped head bytes fits =
    let last : Result (Found × ℕ) ParseStop = Ok (record { next = Between header; facts = [] }, 9 + head.length) in
    cond_both (ltb (length bytes) (9 + head.length)) (Err stops.Short) last (FoundTells longest []) (λ t. omega arith) (λ f. tt)

-- what stands behind a header
behind_tells : (longest : ℕ) (header : Header) (read : Result (Head × ℕ) ParseStop) (bytes : List ℕ)
    → Tells (λ h. is_too_long longest h ≡ false) (length bytes < 9) (Unit {0}) read
    → FoundTells longest (cond (is_skipped_head read) [] bytes) (found_behind header read bytes)
behind_tells longest header (Ok (head, n)) bytes told =
    record_tells longest header (kind_of head.tag) head bytes (λ kind. fact_taken longest head kind told)
behind_tells longest header (Err stops.Short) bytes told = omega arith
behind_tells longest header (Err stops.TooLong) bytes told = tt
behind_tells longest header (Err (stops.Fault reason)) bytes told = told

-- a sub-record
sub_tells : (longest : ℕ) (header : Header) (room : ℕ) (bytes : List ℕ) (read : Result (FactValue × ℕ) ParseStop)
    → StopsIn (bounds_within room longest bytes) read
    → FoundTells longest bytes (found_sub header room read)
sub_tells longest header room bytes (Ok read) told = tt
sub_tells longest header room bytes (Err stops.Short) told = omega (arith, told)
sub_tells longest header room bytes (Err stops.TooLong) told = tt
sub_tells longest header room bytes (Err (stops.Fault reason)) told = told

-- what stands at the first byte
start_tells : (longest : ℕ) (read : Result (Header × ℕ) ParseStop) (bytes : List ℕ)
    → Tells (λ _. Unit {0}) (length bytes < 31) (Unit {0}) read
    → FoundTells longest bytes (found_header read)
start_tells longest (Ok (header, n)) bytes told = tt
start_tells longest (Err stops.Short) bytes told = omega arith
start_tells longest (Err stops.TooLong) bytes told = told
start_tells longest (Err (stops.Fault reason)) bytes told = told

-- what stands at any place
item_tells : (longest : ℕ) (place : Place) (bytes : List ℕ) → FoundTells longest (held_of longest place bytes) (item_at longest place bytes)
unfolding item_at
item_tells longest Start bytes = start_tells longest (header_at bytes) bytes (header_tells bytes)
item_tells longest (Between header) bytes =
    behind_tells longest header (head_at header.ids longest bytes) bytes (head_tells header.ids longest bytes)
item_tells longest (Within header room) bytes =
    sub_tells longest header room bytes (sub_at header.ids (bounds_within room longest bytes) bytes)
    (sub_stops header.ids (bounds_within room longest bytes) bytes)

-- of an item that lacks bytes less is held than a header or the longest item
pub item_short : (longest : ℕ) (place : Place) (bytes : List ℕ) → item_at longest place bytes ≡ Err stops.Short
    → length (held_of longest place bytes) < max 31 (9 + longest)
item_short longest place bytes e = subst (FoundTells longest (held_of longest place bytes)) e (item_tells longest place bytes)

-- an item is at fault for a reason that lasts
pub item_lasting : (longest : ℕ) (place : Place) (bytes : List ℕ) (reason : Reason) → item_at longest place bytes ≡ Err (stops.Fault reason)
    → is_lasting reason ≡ true
item_lasting longest place bytes reason e = subst (FoundTells longest (held_of longest place bytes)) e (item_tells longest place bytes)

-- no bytes are no item yet
pub item_none : (longest : ℕ) (place : Place) → item_at longest place [] ≡ Err stops.Short
unfolding item_at header_at head_at sub_at
item_none longest Start = refl
item_none longest (Between header) = refl
item_none longest (Within header room) = refl
