use Rattle.std.proofs.Common.{◌≡◌, zero, subst}
use Rattle.std.proofs.lemmas.Result.{err_from_is_err_and}
use Rattle.hprof_items.specs.declared.header.Header.{Header}
use Rattle.hprof_items.specs.Header.{header_bytes}
use Rattle.hprof_devices.proofs.Writes.{WritesFront, Writes-then, Writes-stops}
use Rattle.std.specs.Io.KnownBytes.{Appends}
use Rattle.hprof_dump.specs.Dump.{record_facts_bytes}
use Rattle.hprof_heap.specs.Heap.{heap_of}
use Rattle.hprof_stored.proofs.Dumped.{header_of}
use Rattle.hprof_stored.proofs.dumping.write_front.Goals as goal

pub returns-in_err-write_header-clause-bytes : goal.returns-in_err-write_header-clause-bytes
returns-in_err-write_header-clause-bytes g c =
    let heap = heap_of c.args.heap.now in
    let version = c.args.version in
    let r = c.from_residual.result in
    let p = err_from_is_err_and r c.from_residual.ensures.1 in
    let header : header_of version c.ids.result c.millis.result ≡ header_of version heap.ids heap.millis = cc in
    let old = g.W.Target.written c.args.target.now in
    let new = g.W.Target.written c.write_header.new.target in
    Writes-stops old new r p.0 (header_bytes (header_of version heap.ids heap.millis)) (record_facts_bytes heap.ids heap.facts) p.1
    (subst (λ (h : Header). WritesFront old new (header_bytes h)) header c.in_err-write_header.ensures.bytes)

pub returns-clause-bytes : goal.returns-clause-bytes
returns-clause-bytes g c =
    let heap = heap_of c.args.heap.now in
    let version = c.args.version in
    let r = c.write_records.result in
    let header : header_of version c.ids.result c.millis.result ≡ header_of version heap.ids heap.millis = cc in
    let old = g.W.Target.written c.args.target.now in
    let mid = g.W.Target.written c.write_header.new.target in
    let new = g.W.Target.written c.write_records.new.target in
    Writes-then old mid new zero r (header_bytes (header_of version heap.ids heap.millis)) (record_facts_bytes heap.ids heap.facts)
    (subst (λ (h : Header). Appends old mid (header_bytes h)) header c.in_ok-write_header.ensures.bytes) c.write_records.ensures.bytes
