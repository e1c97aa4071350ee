use Rattle.std.proofs.Common.{ℕ, List, [], ◌++◌, Result, sym, subst, append-nil}
use Rattle.std.specs.Io.KnownBytes.{Appends}
use Rattle.std.specs.Prelude.{IfErr}
use Rattle.std.proofs.KnownBytes.{Appends-trans}
use Rattle.hprof_items.specs.declared.header.Version.TheVariants.{V102}
use Rattle.hprof_items.specs.Head.{head_bytes}
use Rattle.hprof_devices.proofs.Writes.{WritesFront-more, WritesFront-then}
use Rattle.hprof_heap.specs.Heap.{heap_of}
use Rattle.hprof_segments.specs.ByteSegments.{segment_records}
use Rattle.hprof_segments.specs.declared.segment_fault.SegmentFault.{SegmentFault}
use Rattle.hprof_objects.specs.declared.object_fault.ObjectFault.{ObjectFault}
use Rattle.hprof_objects.specs.MergedObjects.{TellsChange}
use Rattle.hprof_stored.specs.Dumping.{WritesOrStops, WritesSome, bytes_of, dump_with, front_bytes, subs_of}
use Rattle.hprof_stored.proofs.Dumped.{dump_is}
use Rattle.hprof_stored.proofs.Joined.{no_change}
use Rattle.hprof_stored.proofs.Subs.{at_error}
use Rattle.hprof_stored.proofs.dumping.write_stored_dump.Goals as goal

pub returns-in-Err-clause-dump : goal.returns-in-Err-clause-dump
returns-in-Err-clause-dump g c = λ reads rows told union.
    let heap = heap_of c.args.heap.now in
    let old = g.W.Target.written c.args.target.now in
    let new = g.W.Target.written c.write_front.new.target in
    subst (WritesSome old new) (sym (dump_is heap rows))
    (WritesFront-more old new (front_bytes V102 heap) (segment_records (subs_of heap ++ bytes_of rows) ++ head_bytes 0x2c 0 0)
    c.in-Err.ensures.bytes)

pub returns-in_err-take_subs-clause-dump : goal.returns-in_err-take_subs-clause-dump
returns-in_err-take_subs-clause-dump g c = λ reads rows told union.
    let heap = heap_of c.args.heap.now in
    let old = g.W.Target.written c.args.target.now in
    let mid = g.W.Target.written c.write_front.new.target in
    let new = g.W.Target.written c.take_subs.new.target in
    let records = segment_records (subs_of heap ++ bytes_of rows) in
    at_error (λ (r : Result (Unit {0}) (ObjectFault SegmentFault)). WritesOrStops old new r (dump_with heap rows))
    c.from_residual.result c.in_err-take_subs.field-0.0
    (subst (WritesSome old new) (sym (dump_is heap rows))
    (WritesFront-then old mid new (front_bytes V102 heap) (records ++ head_bytes 0x2c 0 0) c.in_default.ensures.bytes
    (WritesFront-more mid new records (head_bytes 0x2c 0 0) (c.in_err-take_subs.ensures.taken (bytes_of rows)))))
    c.from_residual.ensures.1

pub returns-in_err-take_objects-clause-dump : goal.returns-in_err-take_objects-clause-dump
returns-in_err-take_objects-clause-dump g c = λ reads rows told union.
    let heap = heap_of c.args.heap.now in
    let old = g.W.Target.written c.args.target.now in
    let mid = g.W.Target.written c.write_front.new.target in
    let new = g.W.Target.written c.take_objects.new.target in
    let subs = subs_of heap ++ bytes_of rows in
    at_error (λ (r : Result (Unit {0}) (ObjectFault SegmentFault)). WritesOrStops old new r (dump_with heap rows))
    c.from_residual-in_err-take_objects.result c.in_err-take_objects.field-0.0
    (subst (WritesSome old new) (sym (dump_is heap rows))
    (WritesFront-then old mid new (front_bytes V102 heap) (segment_records subs ++ head_bytes 0x2c 0 0) c.in_default.ensures.bytes
    (WritesFront-more mid new (segment_records subs) (head_bytes 0x2c 0 0)
    (subst (λ (l : List (List ℕ)). WritesSome mid new (segment_records l)) (append-nil subs)
    (c.in_err-take_objects.ensures.taken reads rows told union mid (subs_of heap) c.in_ok-take_subs.ensures.taken [])))))
    c.from_residual-in_err-take_objects.ensures.1

pub returns-in-Ok-clause-dump : goal.returns-in-Ok-clause-dump
returns-in-Ok-clause-dump g c = λ reads rows told union.
    let heap = heap_of c.args.heap.now in
    let old = g.W.Target.written c.args.target.now in
    let mid = g.W.Target.written c.write_front.new.target in
    let new = g.W.Target.written c.write_end.new.target in
    let subs = subs_of heap ++ bytes_of rows in
    subst (Appends old new) (sym (dump_is heap rows))
    (Appends-trans old mid new (front_bytes V102 heap) (segment_records subs ++ head_bytes 0x2c 0 0) c.in_default.ensures.bytes
    (c.in-Ok.ensures.bytes mid subs
    (c.in_ok-take_objects.ensures.taken reads rows told union mid (subs_of heap) c.in_ok-take_subs.ensures.taken)))

pub returns-in-Err-write_end-clause-dump : goal.returns-in-Err-write_end-clause-dump
returns-in-Err-write_end-clause-dump g c = λ reads rows told union.
    let heap = heap_of c.args.heap.now in
    let old = g.W.Target.written c.args.target.now in
    let mid = g.W.Target.written c.write_front.new.target in
    let new = g.W.Target.written c.write_end.new.target in
    let subs = subs_of heap ++ bytes_of rows in
    subst (WritesSome old new) (sym (dump_is heap rows))
    (WritesFront-then old mid new (front_bytes V102 heap) (segment_records subs ++ head_bytes 0x2c 0 0) c.in_default.ensures.bytes
    (c.in-Err-write_end.ensures.bytes mid subs
    (c.in_ok-take_objects.ensures.taken reads rows told union mid (subs_of heap) c.in_ok-take_subs.ensures.taken)))

pub returns-in_err-take_subs-clause-again : goal.returns-in_err-take_subs-clause-again
returns-in_err-take_subs-clause-again g c =
    let changes : ObjectFault SegmentFault → Type 0 =
    TellsChange g.S.Target.written g.S.Target.health c.args.limits (g.P.Parts.bytes c.args.parts.now) c.args.objects.now in
    at_error (λ (r : Result (Unit {0}) (ObjectFault SegmentFault)). IfErr r changes) c.from_residual.result c.in_err-take_subs.field-0.0
    (no_change g.S.Target.written g.S.Target.health c.args.limits (g.P.Parts.bytes c.args.parts.now) c.args.objects.now
    c.in_err-take_subs.field-0.0 c.in_err-take_subs.ensures.target)
    c.from_residual.ensures.1
