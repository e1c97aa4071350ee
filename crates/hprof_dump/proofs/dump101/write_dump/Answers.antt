use Rattle.std.proofs.Common.{◌≡◌, ◌++◌, zero, subst}
use Rattle.std.proofs.lemmas.Result.{err_from_is_err_and}
use Rattle.hprof_items.specs.declared.header.Header.{Header}
use Rattle.hprof_items.specs.Header.{header_bytes}
use Rattle.hprof_devices.proofs.Writes.{WritesFront, Writes-then, Writes-stops}
use Rattle.hprof_dump.specs.Dump.{record_facts_bytes}
use Rattle.hprof_rows.specs.SubFacts.{sub_facts}
use Rattle.hprof_heap.specs.Heap.{heap_of}
use Rattle.hprof_dump.specs.Dump101.{heap_dump}
use Rattle.hprof_dump.proofs.ReadsBack.{dump_header}
use Rattle.hprof_dump.proofs.Writing101.{dump_after_header}
use Rattle.hprof_dump.proofs.dump101.write_dump.Goals as goal

pub returns-in_err-write_header-clause-bytes : goal.returns-in_err-write_header-clause-bytes
returns-in_err-write_header-clause-bytes g c =
    let heap = heap_of c.args.heap.now in
    let r = c.from_residual.result in
    let p = err_from_is_err_and r c.from_residual.ensures.1 in
    let header : dump_header c.ids.result c.millis.result ≡ dump_header heap.ids heap.millis = cc in
    let old = g.W.Target.written c.args.target.now in
    let new = g.W.Target.written c.write_header.new.target in
    Writes-stops old new r p.0 (header_bytes (dump_header heap.ids heap.millis))
    (record_facts_bytes heap.ids heap.facts ++ heap_dump heap.ids (sub_facts heap.facts)) p.1
    (subst (λ (h : Header). WritesFront old new (header_bytes h)) header c.in_err-write_header.ensures.bytes)

pub returns-in_err-write_records-clause-bytes : goal.returns-in_err-write_records-clause-bytes
returns-in_err-write_records-clause-bytes g c =
    let heap = heap_of c.args.heap.now in
    let r = c.from_residual-in_err-write_records.result in
    let p = err_from_is_err_and r c.from_residual-in_err-write_records.ensures.1 in
    let header : dump_header c.ids.result c.millis.result ≡ dump_header heap.ids heap.millis = cc in
    let mid = g.W.Target.written c.write_header.new.target in
    let new = g.W.Target.written c.write_records.new.target in
    dump_after_header heap.ids heap.millis heap.facts (dump_header c.ids.result c.millis.result)
    (g.W.Target.written c.args.target.now) mid new r header
    c.in_ok-write_header.ensures.bytes
    (Writes-stops mid new r p.0 (record_facts_bytes heap.ids heap.facts) (heap_dump heap.ids (sub_facts heap.facts)) p.1
    c.in_err-write_records.ensures.bytes)

pub returns-clause-bytes : goal.returns-clause-bytes
returns-clause-bytes g c =
    let heap = heap_of c.args.heap.now in
    let r = c.write_heap_dump.result in
    let header : dump_header c.ids.result c.millis.result ≡ dump_header heap.ids heap.millis = cc in
    let mid = g.W.Target.written c.write_header.new.target in
    let later = g.W.Target.written c.write_records.new.target in
    let new = g.W.Target.written c.write_heap_dump.new.target in
    dump_after_header heap.ids heap.millis heap.facts (dump_header c.ids.result c.millis.result)
    (g.W.Target.written c.args.target.now) mid new r header
    c.in_ok-write_header.ensures.bytes
    (Writes-then mid later new zero r (record_facts_bytes heap.ids heap.facts) (heap_dump heap.ids (sub_facts heap.facts))
    c.in_ok-write_records.ensures.bytes c.write_heap_dump.ensures.bytes)
