use Rattle.std.proofs.Common.{length}
use Rattle.hprof_dump.specs.Dump.{most_in_segment}
use Rattle.hprof_dump.proofs.Packing.{packed_is, packed_once}
use Rattle.hprof_segments.specs.ByteSegments.{byte_segments}
use Rattle.hprof_segments.proofs.laws.segments_are_full.Goals as goal

pub returns-clause-full : goal.returns-clause-full
returns-clause-full c = packed_is length most_in_segment

pub returns-clause-once : goal.returns-clause-once
returns-clause-once c = λ subs segments packed.
    packed_once length most_in_segment subs segments (byte_segments subs) packed (packed_is length most_in_segment subs)
