-- What a writer of segments holds.
use Rattle.std.specs.Prelude.{ℕ, List}
use Rattle.hprof_segments.specs.declared.segment_writer.SegmentWriter.{SegmentWriter}

-- the bytes of the sub-records of the segment that was begun
abbrev pub held_bytes : SegmentWriter → List ℕ
held_bytes writer = writer.held.items
