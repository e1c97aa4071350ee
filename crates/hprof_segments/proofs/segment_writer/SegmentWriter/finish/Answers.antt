use Rattle.hprof_segments.proofs.Takes.{all_written}
use Rattle.hprof_segments.proofs.segment_writer.SegmentWriter.finish.Goals as goal

pub returns-clause-written : goal.returns-clause-written
returns-clause-written g c = λ start subs h. all_written start _ _ _ subs c.write_held.result h c.write_held.ensures.bytes
