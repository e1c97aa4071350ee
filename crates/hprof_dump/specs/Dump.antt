-- The canonical dump.
use Rattle.std.specs.Prelude.{ℕ, List, ◌++◌, length}
use Rattle.std.specs.List.{filter, flat_map}
use Rattle.hprof_values.specs.declared.ids.IdSize.{IdSize}
use Rattle.hprof_items.specs.declared.header.Version.TheVariants.{V102}
use Rattle.hprof_items.specs.FactValue.{FactValue}
use Rattle.hprof_items.specs.Header.{header_bytes}
use Rattle.hprof_items.specs.Head.{head_bytes, record_bytes}
use Rattle.hprof_items.specs.Spelling.{spelling}
use Rattle.hprof_items.specs.SubRecord.{dump_bytes}
use Rattle.hprof_rows.specs.SubFacts.{is_record_fact, sub_facts}
use Rattle.hprof_dump.specs.Segments.{packed}

-- the most bytes that a segment of more than one sub-record has
abbrev pub most_in_segment : ℕ
most_in_segment = 1048576

-- the sub-records in segments that are as full as they can be
abbrev pub segments_of : IdSize → List FactValue → List (List FactValue)
segments_of ids subs = packed (λ fact. length (dump_bytes ids fact)) most_in_segment subs

-- a segment: a record of its own with the sub-records
abbrev pub segment_bytes : IdSize → List FactValue → List ℕ
segment_bytes ids segment = record_bytes 0x1c 0 (flat_map (dump_bytes ids) segment)

-- the spellings of the facts that records state
abbrev pub record_facts_bytes : IdSize → List FactValue → List ℕ
record_facts_bytes ids rows = flat_map (spelling ids) (filter is_record_fact rows)

-- the others, in segments
abbrev pub sub_facts_bytes : IdSize → List FactValue → List ℕ
sub_facts_bytes ids rows = flat_map (segment_bytes ids) (segments_of ids (sub_facts rows))

-- the header of version 1.0.2, the spelling of each fact that a record states, the others in packed segments, one
-- HEAP_DUMP_END; rows are the facts in canonical order
abbrev pub canonical_dump : IdSize → ℕ → List FactValue → List ℕ
canonical_dump ids millis rows =
    header_bytes (record { version = V102; ids = ids; millis = millis })
    ++ (record_facts_bytes ids rows ++ (sub_facts_bytes ids rows ++ head_bytes 0x2c 0 0))
