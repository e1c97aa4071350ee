-- The dump of a heap, whose objects are rows.
use Rattle.std.specs.Prelude.{◌≡◌, ◌≤◌, ℕ, List, ◌++◌, length, map, take, Option, Result, Ok, Err, ⊤}
use Rattle.std.specs.List.{AllByRecursion}
use Rattle.std.specs.Io.KnownBytes.{Appends}
use Rattle.hprof_devices.specs.declared.health.Health.{Health}
use Rattle.hprof_devices.specs.declared.health.Health.TheVariants.{Well}
use Rattle.hprof_devices.specs.Device.{health_after}
use Rattle.hprof_items.specs.declared.header.Version.{Version}
use Rattle.hprof_items.specs.declared.header.Version.TheVariants.{V102}
use Rattle.hprof_items.specs.Header.{header_bytes}
use Rattle.hprof_items.specs.Head.{head_bytes}
use Rattle.hprof_items.specs.SubRecord.{dump_bytes}
use Rattle.hprof_rows.specs.HeapValue.{HeapValue}
use Rattle.hprof_rows.specs.SubFacts.{sub_facts}
use Rattle.hprof_dump.specs.Dump.{record_facts_bytes}
use Rattle.hprof_merge.specs.Rows.{ByteRow}
use Rattle.hprof_merge.specs.TwoContents.{IsLeastWithTwoContents}
use Rattle.hprof_segments.specs.declared.segment_fault.SegmentFault.{SegmentFault}
use Rattle.hprof_segments.specs.declared.segment_fault.SegmentFault.TheVariants as segments
use Rattle.hprof_segments.specs.ByteSegments.{IsSub, segment_records}
use Rattle.hprof_segments.specs.Taking.{HasTaken}
use Rattle.hprof_objects.specs.declared.object_fault.ObjectFault.{ObjectFault}
use Rattle.hprof_objects.specs.declared.object_fault.ObjectFault.TheVariants as stops

-- the sub-records of the facts of a heap
abbrev pub subs_of : HeapValue → List (List ℕ)
subs_of heap = map (dump_bytes heap.ids) (sub_facts heap.facts)

-- the bytes of each row
abbrev pub bytes_of : List ByteRow → List (List ℕ)
bytes_of rows = map (λ row. row.1) rows

-- what stands before the sub-records: the header of a version, and the facts of a heap that have records
abbrev pub front_bytes : Version → HeapValue → List ℕ
front_bytes version heap =
    header_bytes (record { version = version; ids = heap.ids; millis = heap.millis }) ++ record_facts_bytes heap.ids heap.facts

-- the header of version 1.0.2, the facts of a heap that have records, and its sub-records with those of the rows behind them, in segments
abbrev pub dump_with : HeapValue → List ByteRow → List ℕ
dump_with heap rows =
    header_bytes (record { version = V102; ids = heap.ids; millis = heap.millis })
    ++ (record_facts_bytes heap.ids heap.facts ++ (segment_records (subs_of heap ++ bytes_of rows) ++ head_bytes 0x2c 0 0))

-- some of the bytes went out, from the front
abbrev pub WritesSome : Option (List ℕ) → Option (List ℕ) → List ℕ → Type 0
WritesSome old new bytes = (n : ℕ) × (n ≤ length bytes) × Appends old new (take n bytes)

-- all the bytes went out, or, where it stopped, some of them, from the front
abbrev pub WritesOrStops : {A E : Type 0} → Option (List ℕ) → Option (List ℕ) → Result A E → List ℕ → Type 0
WritesOrStops old new (Ok done) bytes = Appends old new bytes
WritesOrStops old new (Err stop) bytes = WritesSome old new bytes

-- a writer has taken these sub-records since the target held `start`; or, whatever would have followed, a prefix of the segments of all was
-- written
abbrev pub TakesSubs : {A E : Type 0} → (start now : Option (List ℕ)) → (held : List ℕ) → List (List ℕ) → Result A E → Type 0
TakesSubs start now held subs (Ok done) = HasTaken start now held subs
TakesSubs start now held subs (Err stop) = (more : List (List ℕ)) → WritesSome start now (segment_records (subs ++ more))

-- the health in which writing a dump leaves its target
abbrev pub LeavesTarget : {A : Type 0} → Result A (ObjectFault SegmentFault) → Health → Type 0
LeavesTarget (Ok done) health = health ≡ Well
LeavesTarget (Err stops.OutOfMemory) health = health ≡ Well
LeavesTarget (Err (stops.TwoContents key)) health = health ≡ Well
LeavesTarget (Err (stops.Scratch fault)) health = health ≡ Well
LeavesTarget (Err (stops.Part part fault)) health = health ≡ Well
LeavesTarget (Err (stops.Sink segments.NoSubRecord)) health = ⊤
LeavesTarget (Err (stops.Sink (segments.Write fault))) health = health ≡ health_after fault

-- a merge that stops at two contents has found the least key that has them
abbrev pub FindsLeast : List (List ByteRow) → ObjectFault SegmentFault → Type 0
FindsLeast lists stops.OutOfMemory = ⊤
FindsLeast lists (stops.TwoContents key) = IsLeastWithTwoContents lists key
FindsLeast lists (stops.Scratch fault) = ⊤
FindsLeast lists (stops.Part part fault) = ⊤
FindsLeast lists (stops.Sink fault) = ⊥

-- each row may be a sub-record
abbrev pub AreSubRecords : List ByteRow → Type 0
AreSubRecords rows = AllByRecursion (λ row. IsSub row.1) rows

-- memory, the scratch, a part or the target is the reason, and not the objects
abbrev pub IsOfDevices : ObjectFault SegmentFault → Type 0
IsOfDevices stops.OutOfMemory = ⊤
IsOfDevices (stops.TwoContents key) = ⊥
IsOfDevices (stops.Scratch fault) = ⊤
IsOfDevices (stops.Part part fault) = ⊤
IsOfDevices (stops.Sink segments.NoSubRecord) = ⊥
IsOfDevices (stops.Sink (segments.Write fault)) = ⊤

-- memory or the target is the reason
abbrev pub IsOfTarget : ObjectFault SegmentFault → Type 0
IsOfTarget stops.OutOfMemory = ⊤
IsOfTarget (stops.TwoContents key) = ⊥
IsOfTarget (stops.Scratch fault) = ⊥
IsOfTarget (stops.Part part fault) = ⊥
IsOfTarget (stops.Sink fault) = ⊤
