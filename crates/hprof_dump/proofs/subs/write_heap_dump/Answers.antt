use Rattle.std.proofs.Common.{zero, sym, subst, ◌∙◌, arith}
use Rattle.std.specs.Io.KnownBytes.{Appends}
use Rattle.std.specs.List.{flat_map}
use Rattle.std.proofs.KnownBytes.{Appends-nil}
use Rattle.std.proofs.lemmas.Result.{err_from_is_err_and}
use Rattle.hprof_devices.specs.Device.{Writes}
use Rattle.hprof_devices.proofs.Writes.{Writes-then, Writes-stops}
use Rattle.hprof_items.specs.Head.{head_bytes}
use Rattle.hprof_items.specs.SubRecord.{dump_bytes}
use Rattle.hprof_rows.specs.SubFacts.{sub_facts}
use Rattle.hprof_heap.specs.Heap.{heap_of}
use Rattle.hprof_dump.proofs.Counting101.{no_heap_dump, heap_dump_by}
use Rattle.hprof_dump.proofs.subs.write_heap_dump.Goals as goal

pub returns-then-len-eq0-clause-bytes : goal.returns-then-len-eq0-clause-bytes
returns-then-len-eq0-clause-bytes g c =
    let heap = heap_of c.args.heap.now in
    let written = g.W.Target.written c.args.target.now in
    subst (Appends written written) (sym (no_heap_dump heap.ids heap.facts (sym c.requires.len ∙ c.if-len-eq0.true))) (Appends-nil written)

pub returns-in_err-write_head-clause-bytes : goal.returns-in_err-write_head-clause-bytes
returns-in_err-write_head-clause-bytes g c =
    let r = c.from_residual.result in
    let p = err_from_is_err_and r c.from_residual.ensures.1 in
    let heap = heap_of c.args.heap.now in
    let subs = sub_facts heap.facts in
    let body = flat_map (dump_bytes heap.ids) subs in
    let old = g.W.Target.written c.args.target.now in
    let new = g.W.Target.written c.write_head.new.target in
    subst (Writes old new r) (heap_dump_by heap.ids subs c.args.len c.requires.len (omega (arith, c.if-len-eq0.false)))
    (Writes-stops old new r p.0 (head_bytes 0x0c 0 c.args.len) body p.1 c.in_err-write_head.ensures.bytes)

pub returns-clause-bytes : goal.returns-clause-bytes
returns-clause-bytes g c =
    let r = c.write_rows.result in
    let heap = heap_of c.args.heap.now in
    let subs = sub_facts heap.facts in
    let body = flat_map (dump_bytes heap.ids) subs in
    let old = g.W.Target.written c.args.target.now in
    let mid = g.W.Target.written c.write_head.new.target in
    let new = g.W.Target.written c.write_rows.new.target in
    subst (Writes old new r) (heap_dump_by heap.ids subs c.args.len c.requires.len (omega (arith, c.if-len-eq0.false)))
    (Writes-then old mid new zero r (head_bytes 0x0c 0 c.args.len) body c.in_ok-write_head.ensures.bytes c.write_rows.ensures.bytes)
