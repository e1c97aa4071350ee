-- The 1.0.1 dump of a heap, whose objects are rows.
use Rattle.std.specs.Prelude.{ℕ, zero, suc, List, [], ◌∷◌, ◌++◌}
use Rattle.std.specs.List.{flat_map}
use Rattle.hprof_items.specs.declared.header.Version.TheVariants.{V101}
use Rattle.hprof_items.specs.Header.{header_bytes}
use Rattle.hprof_items.specs.Head.{head_bytes, record_bytes}
use Rattle.hprof_items.specs.SubRecord.{dump_bytes}
use Rattle.hprof_rows.specs.HeapValue.{HeapValue}
use Rattle.hprof_rows.specs.SubFacts.{sub_facts}
use Rattle.hprof_dump.specs.Dump.{record_facts_bytes}
use Rattle.hprof_merge.specs.Rows.{ByteRow}
use Rattle.hprof_stored.specs.Dumping.{front_bytes}

-- the bytes of the sub-records of a heap
abbrev pub own_bytes : HeapValue → List ℕ
own_bytes heap = flat_map (dump_bytes heap.ids) (sub_facts heap.facts)

-- the bytes of rows
abbrev pub rows_bytes : List ByteRow → List ℕ
rows_bytes rows = flat_map (λ row. row.1) rows

-- the bytes of all sub-records: those of the heap, and the rows behind them
abbrev pub body_with : HeapValue → List ByteRow → List ℕ
body_with heap rows = own_bytes heap ++ rows_bytes rows

-- a HEAP_DUMP record with this body; none where it has no bytes
abbrev pub heap_dump_of : List ℕ → List ℕ
heap_dump_of [] = []
heap_dump_of (first ∷ others) = record_bytes 0x0c 0 (first ∷ others)

-- the header of version 1.0.1, the facts of a heap that have records, and its sub-records with the rows behind them in one HEAP_DUMP
abbrev pub dump101_with : HeapValue → List ByteRow → List ℕ
dump101_with heap rows =
    header_bytes (record { version = V101; ids = heap.ids; millis = heap.millis })
    ++ (record_facts_bytes heap.ids heap.facts ++ heap_dump_of (body_with heap rows))

-- the head of a HEAP_DUMP record with so many bytes; none where there are none
abbrev pub dump_head : ℕ → List ℕ
dump_head zero = []
dump_head (suc len) = head_bytes 0x0c 0 (suc len)

-- what stands before the rows, where all sub-records have so many bytes
abbrev pub front101 : HeapValue → ℕ → List ℕ
front101 heap len = front_bytes V101 heap ++ (dump_head len ++ own_bytes heap)
