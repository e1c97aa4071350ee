-- The tags of records that state one fact: heapDumper.cpp, "HPROF binary format", the records.
use Rattle.std.specs.Prelude.{◌==◌, ℕ, Bool, true, false, List, [], ◌∷◌, Option, find}
use Rattle.hprof_values.specs.declared.ids.IdSize.{IdSize}
use Rattle.hprof_values.specs.declared.record_tag.RecordTag.{RecordTag}
use Rattle.hprof_values.specs.declared.record_tag.RecordTag.TheVariants as tags
use Rattle.hprof_values.specs.Ids.{width_of}

-- the byte that stands for it
abbrev pub code_of_record : RecordTag → ℕ
code_of_record tags.Utf8 = 0x01
code_of_record tags.LoadClass = 0x02
code_of_record tags.UnloadClass = 0x03
code_of_record tags.Frame = 0x04
code_of_record tags.Trace = 0x05
code_of_record tags.StartThread = 0x0a
code_of_record tags.EndThread = 0x0b

abbrev pub all_records : List RecordTag
all_records = tags.Utf8 ∷ tags.LoadClass ∷ tags.UnloadClass ∷ tags.Frame ∷ tags.Trace ∷ tags.StartThread ∷ tags.EndThread ∷ []

-- the tag that a byte stands for
abbrev pub record_of_code : ℕ → Option RecordTag
record_of_code code = find (λ tag. code_of_record tag == code) all_records

-- the widths of the fields at the front of the body:
--   UTF8: id name
--   LOAD_CLASS: u4 class serial, id class object, u4 trace serial, id class name
--   UNLOAD_CLASS: u4 class serial
--   FRAME: id frame, id method name, id method signature, id source file name, u4 class serial, i4 line
--   TRACE: u4 trace serial, u4 thread serial, u4 number of frames
--   START_THREAD: u4 thread serial, id thread object, u4 trace serial, id thread name, id group name, id parent group name
--   END_THREAD: u4 thread serial
abbrev pub record_fields : IdSize → RecordTag → List ℕ
record_fields ids tags.Utf8 = width_of ids ∷ []
record_fields ids tags.LoadClass = 4 ∷ width_of ids ∷ 4 ∷ width_of ids ∷ []
record_fields ids tags.UnloadClass = 4 ∷ []
record_fields ids tags.Frame = width_of ids ∷ width_of ids ∷ width_of ids ∷ width_of ids ∷ 4 ∷ 4 ∷ []
record_fields ids tags.Trace = 4 ∷ 4 ∷ 4 ∷ []
record_fields ids tags.StartThread = 4 ∷ width_of ids ∷ 4 ∷ width_of ids ∷ width_of ids ∷ width_of ids ∷ []
record_fields ids tags.EndThread = 4 ∷ []

-- whether bytes may follow these fields: those of a name, the frames of a trace
abbrev pub has_more : RecordTag → Bool
has_more tags.Utf8 = true
has_more tags.Trace = true
has_more _ = false
