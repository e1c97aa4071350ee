use Rattle.std.proofs.Common.{◌++◌, zero}
use Rattle.std.proofs.lemmas.Result.{err_from_is_err_and}
use Rattle.hprof_items.specs.declared.header.Version.TheVariants.{V101}
use Rattle.hprof_devices.proofs.Writes.{Writes-then, Writes-stops}
use Rattle.hprof_heap.specs.Heap.{heap_of}
use Rattle.hprof_stored.specs.Dumping.{front_bytes}
use Rattle.hprof_stored101.specs.Dumping101.{dump_head, own_bytes}
use Rattle.hprof_stored101.proofs.dumping101.write_front101.Goals as goal

pub returns-in_err-write_front-clause-bytes : goal.returns-in_err-write_front-clause-bytes
returns-in_err-write_front-clause-bytes g c =
    let heap = heap_of c.args.heap.now in
    let r = c.from_residual.result in
    let p = err_from_is_err_and r c.from_residual.ensures.1 in
    Writes-stops (g.W.Target.written c.args.target.now) (g.W.Target.written c.write_front.new.target) r p.0 (front_bytes V101 heap)
    (dump_head c.args.len ++ own_bytes heap) p.1 c.in_err-write_front.ensures.bytes

pub returns-in_err-write_dump_head-clause-bytes : goal.returns-in_err-write_dump_head-clause-bytes
returns-in_err-write_dump_head-clause-bytes g c =
    let heap = heap_of c.args.heap.now in
    let r = c.from_residual-in_err-write_dump_head.result in
    let p = err_from_is_err_and r c.from_residual-in_err-write_dump_head.ensures.1 in
    let mid = g.W.Target.written c.write_front.new.target in
    let new = g.W.Target.written c.write_dump_head.new.target in
    Writes-then (g.W.Target.written c.args.target.now) mid new zero r (front_bytes V101 heap) (dump_head c.args.len ++ own_bytes heap)
    c.in_ok-write_front.ensures.bytes
    (Writes-stops mid new r p.0 (dump_head c.args.len) (own_bytes heap) p.1 c.in_err-write_dump_head.ensures.bytes)

pub returns-clause-bytes : goal.returns-clause-bytes
returns-clause-bytes g c =
    let heap = heap_of c.args.heap.now in
    let r = c.write_subs.result in
    let mid = g.W.Target.written c.write_front.new.target in
    let later = g.W.Target.written c.write_dump_head.new.target in
    let new = g.W.Target.written c.write_subs.new.target in
    Writes-then (g.W.Target.written c.args.target.now) mid new zero r (front_bytes V101 heap) (dump_head c.args.len ++ own_bytes heap)
    c.in_ok-write_front.ensures.bytes
    (Writes-then mid later new zero r (dump_head c.args.len) (own_bytes heap) c.in_ok-write_dump_head.ensures.bytes
    c.write_subs.ensures.bytes)
