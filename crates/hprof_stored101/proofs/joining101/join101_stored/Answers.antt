use Rattle.std.proofs.Common.{◌≡◌, ◌≤◌, Some, arith, length, refl, sym, subst}
use Rattle.hprof_items.specs.Spelling.{longest_body}
use Rattle.hprof_heap.specs.Heap.{heap_of}
use Rattle.hprof_engine.specs.declared.heap_fault.HeapFault.TheVariants.{DumpTooLong}
use Rattle.hprof_engine.specs.declared.tool_fault.ToolFault.{ToolFault}
use Rattle.hprof_engine.specs.Joining101.{IsDump101Text, Refuses101}
use Rattle.hprof_engine.specs.Makes.{Makes}
use Rattle.hprof_stored.proofs.AgainMakes.{done_makes, loss_makes, refused_makes, stopped_makes}
use Rattle.hprof_stored.proofs.StoredMakes.{reading_makes}
use Rattle.hprof_stored.proofs.StoredReads.{some_readers}
use Rattle.hprof_stored101.specs.ByteCounter.{capped}
use Rattle.hprof_stored101.specs.Dumping101.{body_with, dump101_with}
use Rattle.hprof_stored101.specs.StoredMaking101.{stored_dump101_making}
use Rattle.hprof_stored101.proofs.Agreed.{is_dump101, is_too_long}
use Rattle.hprof_stored101.proofs.joining101.join101_stored.Goals as goal

-- the parts were refused
pub returns-in-Err : goal.returns-in-Err
returns-in-Err g c =
    let e = c.in-Err.ensures in
    let old = c.args.readers.now in
    let new = c.read_stored.new.readers in
    let some = some_readers old c.if-is_empty.ensures in
    subst (λ (fault : ToolFault). Makes g.R.Source.left g.R.Source.health g.R.Source.pulls g.W.Target.written g.W.Target.health
    c.args.limits stored_dump101_making old new c.args.target.now c.args.target.now (Some fault)) (sym c.from.ensures)
    (reading_makes g.R.Source.left g.R.Source.health g.R.Source.pulls c.args.limits old new
    g.W.Target.written g.W.Target.health IsDump101Text Refuses101 c.args.target.now c.args.target.now some refl c.in-Err.fault e.reads
    e.first.count e.first.so_many e.first.read_out e.no_other)

-- the objects cannot be gone through
pub returns-in-Err-body_len : goal.returns-in-Err-body_len
returns-in-Err-body_len g c =
    let e = c.in-Ok.ensures in
    let finds = c.in-Err-body_len.ensures in
    loss_makes g.R.Source.left g.R.Source.health g.R.Source.pulls c.args.limits c.args.readers.now c.read_stored.new.readers
    g.W.Target.written g.W.Target.health IsDump101Text Refuses101 c.args.target.now c.args.target.now
    g.S.Target.written g.S.Target.health (g.P.Parts.bytes c.args.parts.now) (g.S.Target.written c.args.scratch) c.in-Ok.stored
    c.finish-objects.result (some_readers c.args.readers.now c.if-is_empty.ensures) c.requires.again e.ok c.finish-objects.ensures.holds
    e.reads e.first c.in-Err-body_len.stop c.fault_of_first_pass.result c.fault_of_first_pass.ensures c.requires.target refl
    c.conflicts_of_objects_come_last.ensures.objects finds.least finds.again

-- the dump is too long
pub returns-then-len-longest : goal.returns-then-len-longest
returns-then-len-longest g c =
    let e = c.in-Ok.ensures in
    let heap = heap_of c.in-Ok.stored.heap in
    refused_makes g.R.Source.left g.R.Source.health g.R.Source.pulls c.args.limits c.args.readers.now c.read_stored.new.readers
    g.W.Target.written g.W.Target.health IsDump101Text Refuses101 c.args.target.now c.args.target.now
    g.S.Target.written g.S.Target.health (g.P.Parts.bytes c.args.parts.now) (g.S.Target.written c.args.scratch) c.in-Ok.stored
    c.finish-objects.result (some_readers c.args.readers.now c.if-is_empty.ensures) c.requires.again e.ok c.finish-objects.ensures.holds
    e.reads e.first (λ rows. c.in-Ok-body_len.len ≡ capped (length (body_with heap rows))) c.in-Ok-body_len.ensures.len
    c.objects_stand_behind.ensures.objects c.objects_stand_behind.ensures.heap DumpTooLong refl
    (λ parts rows agree known. is_too_long parts heap rows agree
    (omega (arith, known, c.if-len-longest.true, c.from-longest.ensures)))

-- all was written
pub returns-in-Ok-write_stored101 : goal.returns-in-Ok-write_stored101
returns-in-Ok-write_stored101 g c =
    let e = c.in-Ok.ensures in
    let heap = heap_of c.in-Ok.stored.heap in
    let wrote = c.in-Ok-write_stored101.ensures in
    done_makes g.R.Source.left g.R.Source.health g.R.Source.pulls c.args.limits c.args.readers.now c.read_stored.new.readers
    g.W.Target.written g.W.Target.health IsDump101Text Refuses101 c.args.target.now c.write_stored101.new.target
    g.S.Target.written g.S.Target.health (g.P.Parts.bytes c.args.parts.now) (g.S.Target.written c.args.scratch) c.in-Ok.stored
    c.finish-objects.result (some_readers c.args.readers.now c.if-is_empty.ensures) c.requires.again e.ok c.finish-objects.ensures.holds
    e.reads e.first (λ rows. c.in-Ok-body_len.len ≡ capped (length (body_with heap rows))) c.in-Ok-body_len.ensures.len
    c.objects_stand_behind.ensures.objects c.objects_stand_behind.ensures.heap (dump101_with heap)
    (λ parts rows agree known.
    let short : length (body_with heap rows) ≤ longest_body = omega (arith, known, c.if-len-longest.false, c.from-longest.ensures) in
    is_dump101 parts heap rows agree short) wrote.health
    (λ again rows same union known.
    let exact : c.in-Ok-body_len.len ≡ length (body_with heap rows) =
    omega (arith, known, c.if-len-longest.false, c.from-longest.ensures) in
    wrote.dump again rows same union exact)

-- writing stopped
pub returns : goal.returns
returns g c =
    let e = c.in-Ok.ensures in
    let heap = heap_of c.in-Ok.stored.heap in
    let wrote = c.in-Err-write_stored101.ensures in
    stopped_makes g.R.Source.left g.R.Source.health g.R.Source.pulls c.args.limits c.args.readers.now c.read_stored.new.readers
    g.W.Target.written g.W.Target.health IsDump101Text Refuses101 c.args.target.now c.write_stored101.new.target
    g.S.Target.written g.S.Target.health (g.P.Parts.bytes c.args.parts.now) (g.S.Target.written c.args.scratch) c.in-Ok.stored
    c.finish-objects.result (some_readers c.args.readers.now c.if-is_empty.ensures) c.requires.again e.ok c.finish-objects.ensures.holds
    e.reads e.first (λ rows. c.in-Ok-body_len.len ≡ capped (length (body_with heap rows))) c.in-Ok-body_len.ensures.len
    c.objects_stand_behind.ensures.objects c.objects_stand_behind.ensures.heap (dump101_with heap)
    (λ parts rows agree known.
    let short : length (body_with heap rows) ≤ longest_body = omega (arith, known, c.if-len-longest.false, c.from-longest.ensures) in
    is_dump101 parts heap rows agree short) c.in-Err-write_stored101.stop c.fault_of_stop.result c.fault_of_stop.ensures wrote.health
    (λ again rows same union known.
    let exact : c.in-Ok-body_len.len ≡ length (body_with heap rows) =
    omega (arith, known, c.if-len-longest.false, c.from-longest.ensures) in
    wrote.dump again rows same union exact)
    (λ parts again rows agree same union. wrote.stops again rows same union) wrote.again
