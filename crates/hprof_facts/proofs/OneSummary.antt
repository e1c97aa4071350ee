-- A part has one summary.
use Rattle.std.proofs.Common.{◌≡◌, ℕ, zero, suc, ◌+◌, ◌<◌, ◌≤◌, Bool, ◌||◌, List, [], ◌∷◌, ◌++◌, length, refl, sym, ap, subst, ◌∙◌}
use Rattle.std.proofs.Common.{append-nil, append_assoc, arith}
use Rattle.std.proofs.lemmas.List.{length-append}
use Rattle.std.specs.Prelude.{◌==◌, slice_index}
use Rattle.std.specs.List.{flat_map, list_any, AllByRecursion}
use Rattle.hprof_values.specs.declared.ids.IdSize.{IdSize}
use Rattle.hprof_values.specs.RecordTag.{code_of_record}
use Rattle.hprof_values.proofs.Numbers.{same_parts}
use Rattle.hprof_items.specs.declared.header.Header.{Header}
use Rattle.hprof_items.specs.FactValue.{FactValue}
use Rattle.hprof_items.specs.Head.{head_bytes}
use Rattle.hprof_items.specs.Spelling.{longest_body}
use Rattle.hprof_items.specs.Header.{header_bytes}
use Rattle.hprof_items.specs.RecordBody.{record_body}
use Rattle.hprof_items.specs.SubRecord.{dump_bytes}
use Rattle.hprof_stream.specs.declared.summary.PartSummary.{PartSummary}
use Rattle.hprof_stream.specs.Part.{Stated, all_bytes, is_end, IsSummary}
use Rattle.hprof_stream.specs.Item.{Place, Start, Between, Within, place_in, IsItem, is_fact, is_dump_end, is_dump, is_skipped}
use Rattle.hprof_stream.specs.Record.{IsFactRecord, IsRecord, states, ends, dumps, skips}
use Rattle.hprof_stream.proofs.Faults.{item_once}
use Rattle.hprof_stream.proofs.Lengths.{length-record, length-header}
use Rattle.hprof_stream.proofs.Parts.{written_states}
use Rattle.hprof_stream.proofs.SubFacts.{record_fits}

-- ---- records

-- the bytes begin with an item that says how many are behind it
record IsFramed (header : Header) (bytes : List ℕ) : Type 0 where
  first : Stated
  raw : List ℕ
  item : IsItem longest_body (Between header) first (place_in header (length raw))
  spelled : bytes ≡ first.bytes ++ raw

-- an item alone
alone : (header : Header) (one : Stated) → IsItem longest_body (Between header) one (Between header) → IsFramed header one.bytes
alone header one is = record { first = one; raw = []; item = is; spelled = sym (append-nil one.bytes) }

-- a record of a fact is no longer than the longest that a head can say
fact_fits : (ids : IdSize) (bytes : List ℕ) (fact : FactValue) → IsFactRecord ids bytes fact → length bytes ≤ 9 + longest_body
fact_fits ids bytes fact is =
    let fits = record_fits ids is.tag fact is.is is.fits in
    omega (arith, ap length is.spelled, length-record (code_of_record is.tag) is.time (record_body ids is.tag fact), fits.1)

-- each record begins so
framed : (header : Header) (bytes : List ℕ) (facts : List FactValue) → IsRecord header.ids bytes facts → IsFramed header bytes
framed header bytes facts (states {fact = fact} is) =
    alone header (record { bytes = bytes; facts = fact ∷ [] }) (is_fact is (fact_fits header.ids bytes fact is) refl)
framed header bytes facts (ends is) = alone header (record { bytes = bytes; facts = [] }) (is_dump_end is refl)
framed header bytes facts (dumps is) =
    let raw : List ℕ = flat_map (dump_bytes header.ids) facts in
    record {
      first = record { bytes = head_bytes is.tag is.time (length raw); facts = [] };
      raw = raw;
      item =
          is_dump is.is_dump is.is_time is.short refl refl;
      spelled = is.spelled;
    }
framed header bytes facts (skips is) = alone header (record { bytes = bytes; facts = [] }) (is_skipped is refl)

-- how many bytes are left of a heap dump
abbrev room_of : Place → ℕ
room_of Start = 0
room_of (Between header) = 0
room_of (Within header room) = room

room_in : (header : Header) (room : ℕ) → room_of (place_in header room) ≡ room
room_in header zero = refl
room_in header (suc room) = refl

-- a record has some bytes
record_some : (ids : IdSize) (bytes : List ℕ) (facts : List FactValue) → IsRecord ids bytes facts → 0 < length bytes
record_some ids bytes facts (states {fact = fact} is) =
    omega (arith, ap length is.spelled, length-record (code_of_record is.tag) is.time (record_body ids is.tag fact))
record_some ids bytes facts (ends is) = omega (arith, ap length is.spelled, length-record 0x2c is.time [])
record_some ids bytes facts (dumps is) = omega (arith, ap length is.spelled, length-record is.tag is.time (flat_map (dump_bytes ids) facts))
record_some ids bytes facts (skips is) = omega (arith, ap length is.spelled, length-record is.tag is.time is.body)

-- two at the front of the same bytes are one
front_once : (header : Header) (one two rest others : List ℕ) → IsFramed header one → IsFramed header two → one ++ rest ≡ two ++ others
    → (one ≡ two) × (rest ≡ others)
front_once header one two rest others is is_too e =
    let apart : is.first.bytes ++ (is.raw ++ rest) ≡ is_too.first.bytes ++ (is_too.raw ++ others) =
    sym (append_assoc is.first.bytes is.raw rest) ∙ ap (λ (b : List ℕ). b ++ rest) (sym is.spelled) ∙ e
    ∙ ap (λ (b : List ℕ). b ++ others) is_too.spelled ∙ append_assoc is_too.first.bytes is_too.raw others in
    let same = item_once longest_body (Between header) (place_in header (length is.raw)) (place_in header (length is_too.raw)) is.first
    is_too.first (is.raw ++ rest) (is_too.raw ++ others) is.item is_too.item apart in
    let rooms : length is.raw ≡ length is_too.raw = sym (room_in header (length is.raw)) ∙ ap room_of same.0
    ∙ room_in header (length is_too.raw) in
    let behind = same_parts is.raw rest is_too.raw others rooms same.2 in (
      is.spelled ∙ ap (λ (s : Stated). s.bytes ++ is.raw) same.1 ∙ ap (λ (b : List ℕ). is_too.first.bytes ++ b) behind.0
          ∙ sym is_too.spelled,
      behind.1,
    )

-- the same bytes are as many records, of which one ends a heap dump or none
records_alike : (header : Header) (records others : List Stated) → AllByRecursion (λ one. IsRecord header.ids one.bytes one.facts)
    records → AllByRecursion (λ one. IsRecord header.ids one.bytes one.facts) others
    → all_bytes records ≡ all_bytes others → (length records ≡ length others) × (list_any is_end records ≡ list_any is_end others)
records_alike header [] [] each each_too e = (refl, refl)
records_alike header [] (two ∷ others) each each_too e =
    absurd (omega (arith, ap length e, length-append two.bytes (all_bytes others), record_some header.ids two.bytes two.facts each_too.0))
records_alike header (one ∷ records) [] each each_too e =
    absurd (omega (arith, ap length e, length-append one.bytes (all_bytes records), record_some header.ids one.bytes one.facts each.0))
records_alike header (one ∷ records) (two ∷ others) each each_too e =
    let same = front_once header one.bytes two.bytes (all_bytes records) (all_bytes others) (framed header one.bytes one.facts each.0)
    (framed header two.bytes two.facts each_too.0) e in
    let behind = records_alike header records others each.1 each_too.1 same.1 in (
      ap suc behind.0,
      ap (λ (b : List ℕ). (slice_index b 0 == 0x2c) || list_any is_end records) same.0
          ∙ ap (λ (b : Bool). (slice_index two.bytes 0 == 0x2c) || b) behind.1,
    )

-- ---- summaries

-- summaries that say the same are one
same_summary : (one two : PartSummary) → one.header ≡ two.header → one.records ≡ two.records → one.facts ≡ two.facts
    → one.ended ≡ two.ended → one ≡ two
same_summary one two header records facts ended =
    ap (λ (h : Header). record { header = h; records = one.records; facts = one.facts; ended = one.ended }) header
    ∙ ap (λ (n : ℕ). record { header = two.header; records = n; facts = one.facts; ended = one.ended }) records
    ∙ ap (λ (n : ℕ). record { header = two.header; records = two.records; facts = n; ended = one.ended }) facts
    ∙ ap (λ (b : Bool). record { header = two.header; records = two.records; facts = two.facts; ended = b }) ended

-- a part has one summary
pub one_summary : (bytes : List ℕ) (one two : PartSummary) → IsSummary bytes one → IsSummary bytes two → one ≡ two
one_summary bytes one two is is_too =
    let stated = written_states bytes one.header two.header is.records is_too.records is.written is_too.written in
    let each_too = subst (λ (h : Header). AllByRecursion (λ r. IsRecord h.ids r.bytes r.facts) is_too.records) (sym stated.0)
    is_too.written.each in
    let lengths : length (header_bytes one.header) ≡ length (header_bytes two.header) = length-header one.header
    ∙ sym (length-header two.header) in
    let bodies = same_parts (header_bytes one.header) (all_bytes is.records) (header_bytes two.header) (all_bytes is_too.records)
    lengths (sym is.written.spelled ∙ is_too.written.spelled) in
    let alike = records_alike one.header is.records is_too.records is.written.each each_too bodies.1 in
    same_summary one two stated.0 (is.record_count ∙ alike.0 ∙ sym is_too.record_count) (is.fact_count ∙ ap length stated.1
    ∙ sym is_too.fact_count) (is.has_end ∙ alike.1 ∙ sym is_too.has_end)
