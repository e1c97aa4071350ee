-- What a part states: a header, and then records.
use Rattle.std.specs.Prelude.{◌≡◌, ◌==◌, ℕ, Bool, List, ◌++◌, length, slice_index}
use Rattle.std.specs.List.{flat_map, list_any, AllByRecursion}
use Rattle.hprof_values.specs.declared.ids.IdSize.{IdSize}
use Rattle.hprof_items.specs.declared.header.Header.{Header}
use Rattle.hprof_items.specs.FactValue.{FactValue}
use Rattle.hprof_items.specs.Header.{header_bytes, IsMillis}
use Rattle.hprof_stream.specs.declared.summary.PartSummary.{PartSummary}
use Rattle.hprof_stream.specs.Record.{IsRecord}

-- some bytes, and the facts that they state
pub record Stated : Type 0 where
  pub bytes : List ℕ
  pub facts : List FactValue

-- the bytes of all, one after the other
abbrev pub all_bytes : List Stated → List ℕ
all_bytes stated = flat_map (λ one. one.bytes) stated

-- the facts of all, in order
abbrev pub all_facts : List Stated → List FactValue
all_facts stated = flat_map (λ one. one.facts) stated

-- the bytes are this header and then these records
pub record IsWritten (bytes : List ℕ) (header : Header) (records : List Stated) : Type 0 where
  pub is_millis : IsMillis header.millis
  pub each : AllByRecursion (λ one. IsRecord header.ids one.bytes one.facts) records
  pub spelled : bytes ≡ header_bytes header ++ all_bytes records

-- the bytes are a part of that size of identifiers and time, and state these facts
pub record IsPart (bytes : List ℕ) (ids : IdSize) (millis : ℕ) (facts : List FactValue) : Type 0 where
  pub header : Header
  pub records : List Stated
  pub written : IsWritten bytes header records
  pub has_ids : header.ids ≡ ids
  pub has_millis : header.millis ≡ millis
  pub has_facts : all_facts records ≡ facts

-- a record with the tag of HEAP_DUMP_END
abbrev pub is_end : Stated → Bool
is_end one = slice_index one.bytes 0 == 0x2c

-- a part's header, how many records and facts it has, and whether one of the records ends a heap dump
pub record IsSummary (bytes : List ℕ) (summary : PartSummary) : Type 0 where
  pub records : List Stated
  pub written : IsWritten bytes summary.header records
  pub record_count : summary.records ≡ length records
  pub fact_count : summary.facts ≡ length (all_facts records)
  pub has_end : summary.ended ≡ list_any is_end records
