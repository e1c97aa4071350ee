use Rattle.std.proofs.Common.{zero}
use Rattle.std.proofs.lemmas.Result.{err_from_is_err_and}
use Rattle.hprof_items.specs.Head.{head_bytes}
use Rattle.hprof_devices.proofs.Writes.{Writes-then, Writes-stops}
use Rattle.hprof_segments.specs.ByteSegments.{segment_records}
use Rattle.hprof_stored.proofs.dumping.write_end.Goals as goal

pub returns-in_err-finish-clause-bytes : goal.returns-in_err-finish-clause-bytes
returns-in_err-finish-clause-bytes g c = λ start subs has.
    let r = c.from_residual.result in
    let p = err_from_is_err_and r c.from_residual.ensures.1 in
    Writes-stops start _ r p.0 (segment_records subs) (head_bytes 0x2c 0 0) p.1 (c.in_err-finish.ensures.written start subs has)

pub returns-clause-bytes : goal.returns-clause-bytes
returns-clause-bytes g c = λ start subs has.
    Writes-then start _ _ zero c.write_head.result (segment_records subs) (head_bytes 0x2c 0 0)
    (c.in_ok-finish.ensures.written start subs has) c.write_head.ensures.bytes
