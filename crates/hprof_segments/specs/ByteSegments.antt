-- The segments of sub-records, each of which is given as its bytes.
use Rattle.std.specs.Prelude.{ℕ, ◌≤◌, ◌<◌, List, [], ◌∷◌, length}
use Rattle.std.specs.List.{flat_map}
use Rattle.hprof_items.specs.Head.{record_bytes}
use Rattle.hprof_items.specs.Spelling.{longest_body}
use Rattle.hprof_dump.specs.Dump.{most_in_segment}
use Rattle.hprof_dump.specs.Segments.{packed, packed_behind}

-- it may be a sub-record: it has a byte, and no more of them than the body of a record may have
abbrev pub IsSub : List ℕ → Type 0
IsSub sub = (0 < length sub) × (length sub ≤ longest_body)

-- sub-records one after another
abbrev pub joined : List (List ℕ) → List ℕ
joined subs = flat_map (λ sub. sub) subs

-- sub-records in segments that are as full as they can be
abbrev pub byte_segments : List (List ℕ) → List (List (List ℕ))
byte_segments subs = packed length most_in_segment subs

-- the segments of sub-records behind those of one that was begun, if one was
abbrev pub segments_behind : List (List ℕ) → List (List ℕ) → List (List (List ℕ))
segments_behind [] subs = byte_segments subs
segments_behind (first ∷ others) subs = packed_behind length most_in_segment (first ∷ others) subs

-- a segment: a HEAP_DUMP_SEGMENT record with its sub-records
abbrev pub segment_record : List (List ℕ) → List ℕ
segment_record segment = record_bytes 0x1c 0 (joined segment)

-- the records of the segments of sub-records
abbrev pub segment_records : List (List ℕ) → List ℕ
segment_records subs = flat_map segment_record (byte_segments subs)
