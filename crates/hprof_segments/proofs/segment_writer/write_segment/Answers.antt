use Rattle.std.proofs.Common.{length, zero}
use Rattle.std.proofs.lemmas.Result.{err_from_is_err_and}
use Rattle.hprof_items.specs.Head.{head_bytes}
use Rattle.hprof_devices.proofs.Writes.{Writes-then, Writes-stops}
use Rattle.hprof_segments.proofs.segment_writer.write_segment.Goals as goal

pub returns-in_err-write_head-clause-bytes : goal.returns-in_err-write_head-clause-bytes
returns-in_err-write_head-clause-bytes g c =
    let r = c.from_residual.result in
    let p = err_from_is_err_and r c.from_residual.ensures.1 in
    let body = c.args.body.now in
    Writes-stops _ _ r p.0 (head_bytes 0x1c 0 (length body)) body p.1 c.in_err-write_head.ensures.bytes

pub returns-clause-bytes : goal.returns-clause-bytes
returns-clause-bytes g c =
    let body = c.args.body.now in
    Writes-then _ _ _ zero c.push_all.result (head_bytes 0x1c 0 (length body)) body c.in_ok-write_head.ensures.bytes
    c.push_all.ensures.bytes
