-- Which facts have a spelling, and what it is: a record with time 0, or a sub-record.
use Rattle.std.specs.Prelude.{ℕ, ◌≤◌, List, length, Option, Some, None}
use Rattle.hprof_values.specs.declared.ids.IdSize.{IdSize}
use Rattle.hprof_values.specs.declared.record_tag.RecordTag.{RecordTag}
use Rattle.hprof_values.specs.RecordTag.{code_of_record}
use Rattle.hprof_items.specs.Head.{record_bytes}
use Rattle.hprof_items.specs.FactValue.{FactValue}
use Rattle.hprof_items.specs.RecordBody.{record_of, record_body, BodyFits}
use Rattle.hprof_items.specs.SubRecord.{dump_bytes, DumpFits}

-- the greatest length of a record's body, and of a sub-record
abbrev pub longest_body : ℕ
longest_body = 4294967295

abbrev pub spelled_as : IdSize → Option RecordTag → FactValue → List ℕ
spelled_as ids (Some tag) fact = record_bytes (code_of_record tag) 0 (record_body ids tag fact)
spelled_as ids None fact = dump_bytes ids fact

abbrev pub spelling : IdSize → FactValue → List ℕ
spelling ids fact = spelled_as ids (record_of fact) fact

-- the body of a record, or the whole sub-record, is no longer than the field for a length can say
abbrev pub FitsAs : IdSize → Option RecordTag → FactValue → Type 0
FitsAs ids (Some tag) fact = BodyFits ids tag fact × (length (record_body ids tag fact) ≤ longest_body)
FitsAs ids None fact = DumpFits ids fact × (length (dump_bytes ids fact) ≤ longest_body)

-- a fact that has a spelling under that size of identifiers
abbrev pub Fits : IdSize → FactValue → Type 0
Fits ids fact = FitsAs ids (record_of fact) fact
