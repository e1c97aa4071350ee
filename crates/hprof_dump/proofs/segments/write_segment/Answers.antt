use Rattle.std.proofs.Common.{◌++◌, ℕ, zero, take, subst}
use Rattle.std.specs.List.{flat_map}
use Rattle.std.proofs.lemmas.Result.{err_from_is_err_and}
use Rattle.hprof_devices.specs.Device.{Writes}
use Rattle.hprof_items.specs.Head.{head_bytes}
use Rattle.hprof_items.specs.SubRecord.{dump_bytes}
use Rattle.hprof_devices.proofs.Writes.{Writes-then, Writes-stops}
use Rattle.hprof_rows.specs.SubRows.{subs_left, subs_ids}
use Rattle.hprof_dump.proofs.segments.write_segment.Goals as goal

pub returns-in_err-write_head-clause-bytes : goal.returns-in_err-write_head-clause-bytes
returns-in_err-write_head-clause-bytes g c =
    let r = c.from_residual.result in
    let p = err_from_is_err_and r c.from_residual.ensures.1 in
    let body = flat_map (dump_bytes (subs_ids c.args.rows.now)) (take c.args.count (subs_left c.args.rows.now)) in
    let old = g.W.Target.written c.args.target.now in
    let new = g.W.Target.written c.write_head.new.target in
    subst (λ (len : ℕ). Writes old new r (head_bytes 0x1c 0 len ++ body)) c.requires.len
    (Writes-stops _ _ r p.0 (head_bytes 0x1c 0 c.args.len) body p.1 c.in_err-write_head.ensures.bytes)

pub returns-clause-bytes : goal.returns-clause-bytes
returns-clause-bytes g c =
    let r = c.write_rows.result in
    let body = flat_map (dump_bytes (subs_ids c.args.rows.now)) (take c.args.count (subs_left c.args.rows.now)) in
    let old = g.W.Target.written c.args.target.now in
    let new = g.W.Target.written c.write_rows.new.target in
    subst (λ (len : ℕ). Writes old new r (head_bytes 0x1c 0 len ++ body)) c.requires.len
    (Writes-then _ _ _ zero r (head_bytes 0x1c 0 c.args.len) body c.in_ok-write_head.ensures.bytes c.write_rows.ensures.bytes)
