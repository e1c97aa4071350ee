-- What a record states: heapDumper.cpp, "HPROF binary format", the records. A record's time may be any number.
use Rattle.std.specs.Prelude.{◌≡◌, ℕ, ◌^◌, ◌<◌, ◌≤◌, true, List, [], ◌∷◌, length, Some, None}
use Rattle.std.specs.List.{flat_map, AllByRecursion}
use Rattle.hprof_values.specs.declared.ids.IdSize.{IdSize}
use Rattle.hprof_values.specs.declared.record_tag.RecordTag.{RecordTag}
use Rattle.hprof_values.specs.Ids.{IsBytes}
use Rattle.hprof_values.specs.RecordTag.{code_of_record}
use Rattle.hprof_items.specs.declared.head.HeadKind.TheVariants.{Skipped}
use Rattle.hprof_items.specs.FactValue.{FactValue}
use Rattle.hprof_items.specs.Head.{record_bytes, is_dump_tag, kind_of}
use Rattle.hprof_items.specs.RecordBody.{record_of, record_body}
use Rattle.hprof_items.specs.SubRecord.{dump_bytes}
use Rattle.hprof_items.specs.Spelling.{Fits, longest_body}

-- the bytes are, but for the time, the record that states the fact
pub record IsFactRecord (ids : IdSize) (bytes : List ℕ) (fact : FactValue) : Type 0 where
  pub tag : RecordTag
  pub is : record_of fact ≡ Some tag
  pub fits : Fits ids fact
  pub time : ℕ
  pub is_time : time < 256 ^ 4
  pub spelled : bytes ≡ record_bytes (code_of_record tag) time (record_body ids tag fact)

-- the bytes are a HEAP_DUMP_END
pub record IsEndRecord (bytes : List ℕ) : Type 0 where
  pub time : ℕ
  pub is_time : time < 256 ^ 4
  pub spelled : bytes ≡ record_bytes 0x2c time []

-- a fact that a sub-record states, and that has a spelling
pub record IsSubFact (ids : IdSize) (fact : FactValue) : Type 0 where
  pub is : record_of fact ≡ None
  pub fits : Fits ids fact

-- the bytes are a HEAP_DUMP or a HEAP_DUMP_SEGMENT, whose body is the sub-records of these facts, and nothing else
pub record IsDumpRecord (ids : IdSize) (bytes : List ℕ) (facts : List FactValue) : Type 0 where
  pub tag : ℕ
  pub is_dump : is_dump_tag tag ≡ true
  pub time : ℕ
  pub is_time : time < 256 ^ 4
  pub each : AllByRecursion (IsSubFact ids) facts
  pub short : length (flat_map (dump_bytes ids) facts) ≤ longest_body
  pub spelled : bytes ≡ record_bytes tag time (flat_map (dump_bytes ids) facts)

-- the bytes are a record that is passed over
pub record IsSkippedRecord (bytes : List ℕ) : Type 0 where
  pub tag : ℕ
  pub is_tag : tag < 256
  pub passed_over : kind_of tag ≡ Skipped
  pub time : ℕ
  pub is_time : time < 256 ^ 4
  pub body : List ℕ
  pub are_bytes : IsBytes body
  pub short : length body ≤ longest_body
  pub spelled : bytes ≡ record_bytes tag time body

-- the bytes are one record, and state these facts
pub data IsRecord (ids : IdSize) (bytes : List ℕ) : List FactValue → Type 0 where
  states : {fact : FactValue} → IsFactRecord ids bytes fact → IsRecord ids bytes (fact ∷ [])
  ends : IsEndRecord bytes → IsRecord ids bytes []
  dumps : {facts : List FactValue} → IsDumpRecord ids bytes facts → IsRecord ids bytes facts
  skips : IsSkippedRecord bytes → IsRecord ids bytes []
