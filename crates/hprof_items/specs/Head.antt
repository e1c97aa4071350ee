-- Records, without what they state: heapDumper.cpp, "HPROF binary format", the records.
use Rattle.std.specs.Prelude.{◌==◌, ◌||◌, ℕ, Bool, List, ◌∷◌, ◌++◌, length, if◌then◌else◌}
use Rattle.byteorder.specs.Endian.{big_bytes}
use Rattle.hprof_items.specs.declared.head.HeadKind.{HeadKind}
use Rattle.hprof_items.specs.declared.head.HeadKind.TheVariants.{FactRecord, HeapDump, DumpEnd, Skipped}

-- u1 tag, u4 time, u4 length of the body
abbrev pub head_bytes : ℕ → ℕ → ℕ → List ℕ
head_bytes tag time len = tag ∷ (big_bytes 4 time ++ big_bytes 4 len)

-- a record: its head, and then its body
abbrev pub record_bytes : ℕ → ℕ → List ℕ → List ℕ
record_bytes tag time body = head_bytes tag time (length body) ++ body

-- UTF8, LOAD_CLASS, UNLOAD_CLASS, FRAME, TRACE, START_THREAD, END_THREAD
abbrev pub is_fact_tag : ℕ → Bool
is_fact_tag tag = (tag == 0x01) || (tag == 0x02) || (tag == 0x03) || (tag == 0x04) || (tag == 0x05) || (tag == 0x0a) || (tag == 0x0b)

-- HEAP_DUMP, HEAP_DUMP_SEGMENT
abbrev pub is_dump_tag : ℕ → Bool
is_dump_tag tag = (tag == 0x0c) || (tag == 0x1c)

-- HEAP_DUMP_END
abbrev pub is_end_tag : ℕ → Bool
is_end_tag tag = tag == 0x2c

-- what a record is for; those that are not named are passed over
abbrev pub kind_of : ℕ → HeadKind
kind_of tag = if is_fact_tag tag then FactRecord else (if is_dump_tag tag then HeapDump else (if is_end_tag tag then DumpEnd else Skipped))
