use Rattle.std.proofs.Common.{subst}
use Rattle.hprof_devices.proofs.Writes.{WritesFront-more}
use Rattle.hprof_heap.specs.Heap.{heap_of}
use Rattle.hprof_stored.specs.Dumping.{WritesOrStops, WritesSome}
use Rattle.hprof_stored101.specs.Dumping101.{front101, rows_bytes}
use Rattle.hprof_stored101.proofs.Dumped101.{front_and_rows, then_stops}
use Rattle.hprof_stored101.proofs.dumping101.write_stored101.Goals as goal

pub returns-in-Err-clause-dump : goal.returns-in-Err-clause-dump
returns-in-Err-clause-dump g c = λ reads rows told union is.
    let heap = heap_of c.args.heap.now in
    let old = g.W.Target.written c.args.target.now in
    let new = g.W.Target.written c.write_front101.new.target in
    subst (WritesSome old new) (front_and_rows heap rows c.args.len is)
    (WritesFront-more old new (front101 heap c.args.len) (rows_bytes rows) c.in-Err.ensures.bytes)

pub returns-clause-dump : goal.returns-clause-dump
returns-clause-dump g c = λ reads rows told union is.
    let heap = heap_of c.args.heap.now in
    let old = g.W.Target.written c.args.target.now in
    let mid = g.W.Target.written c.write_front101.new.target in
    let new = g.W.Target.written c.write_objects.new.target in
    subst (WritesOrStops old new c.write_objects.result) (front_and_rows heap rows c.args.len is)
    (then_stops old mid new c.write_objects.result (front101 heap c.args.len) (rows_bytes rows) c.in_default.ensures.bytes
    (c.write_objects.ensures.bytes reads rows told union))
