use Rattle.std.proofs.Common.{Some, refl, sym, subst}
use Rattle.std.specs.Prelude.{⊤}
use Rattle.hprof_heap.specs.Heap.{heap_of}
use Rattle.hprof_engine.specs.declared.tool_fault.ToolFault.{ToolFault}
use Rattle.hprof_engine.specs.Makes.{IsDumpText, Makes}
use Rattle.hprof_stored.specs.Dumping.{dump_with}
use Rattle.hprof_stored.specs.StoredMaking.{stored_dump_making}
use Rattle.hprof_stored.proofs.AgainMakes.{done_makes, loss_makes, stopped_makes}
use Rattle.hprof_stored.proofs.MadeWith.{are_sub_records, is_dump}
use Rattle.hprof_stored.proofs.StoredMakes.{reading_makes}
use Rattle.hprof_stored.proofs.StoredReads.{some_readers}
use Rattle.hprof_stored.proofs.joining.join_stored.Goals as goal

-- the parts were refused
pub returns-in-Err : goal.returns-in-Err
returns-in-Err g c =
    let e = c.in-Err.ensures in
    let old = c.args.readers.now in
    let new = c.read_stored.new.readers in
    let some = some_readers old c.if-is_empty.ensures in
    subst (λ (fault : ToolFault). Makes g.R.Source.left g.R.Source.health g.R.Source.pulls g.W.Target.written g.W.Target.health
    c.args.limits stored_dump_making old new c.args.target.now c.args.target.now (Some fault)) (sym c.from.ensures)
    (reading_makes g.R.Source.left g.R.Source.health g.R.Source.pulls c.args.limits old new
    g.W.Target.written g.W.Target.health IsDumpText (λ refusal heap. ⊥) c.args.target.now c.args.target.now some refl c.in-Err.fault e.reads
    e.first.count e.first.so_many e.first.read_out e.no_other)

-- the objects cannot be gone through
pub returns-in-Err-find_conflict : goal.returns-in-Err-find_conflict
returns-in-Err-find_conflict g c =
    let e = c.in-Ok-read_stored.ensures in
    let finds = c.in-Err-find_conflict.ensures in
    loss_makes g.R.Source.left g.R.Source.health g.R.Source.pulls c.args.limits c.args.readers.now c.read_stored.new.readers
    g.W.Target.written g.W.Target.health IsDumpText (λ refusal heap. ⊥) c.args.target.now c.args.target.now
    g.S.Target.written g.S.Target.health (g.P.Parts.bytes c.args.parts.now) (g.S.Target.written c.args.scratch) c.in-Ok-read_stored.stored
    c.finish-objects.result (some_readers c.args.readers.now c.if-is_empty.ensures) c.requires.again e.ok c.finish-objects.ensures.holds
    e.reads e.first c.in-Err-find_conflict.stop c.fault_of_first_pass.result c.fault_of_first_pass.ensures c.requires.target refl
    c.conflicts_of_objects_come_last.ensures.objects finds.least finds.again

-- all was written
pub returns-in-Ok-write_stored_dump : goal.returns-in-Ok-write_stored_dump
returns-in-Ok-write_stored_dump g c =
    let e = c.in-Ok-read_stored.ensures in
    let heap = heap_of c.in-Ok-read_stored.stored.heap in
    let wrote = c.in-Ok-write_stored_dump.ensures in
    done_makes g.R.Source.left g.R.Source.health g.R.Source.pulls c.args.limits c.args.readers.now c.read_stored.new.readers
    g.W.Target.written g.W.Target.health IsDumpText (λ refusal heap. ⊥) c.args.target.now c.write_stored_dump.new.target
    g.S.Target.written g.S.Target.health (g.P.Parts.bytes c.args.parts.now) (g.S.Target.written c.args.scratch) c.in-Ok-read_stored.stored
    c.finish-objects.result (some_readers c.args.readers.now c.if-is_empty.ensures) c.requires.again e.ok c.finish-objects.ensures.holds
    e.reads e.first (λ rows. ⊤)
    (λ again same. let it = c.in_default-find_conflict.ensures.none again same in (it.0, it.1, tt))
    c.objects_stand_behind.ensures.objects c.objects_stand_behind.ensures.heap (dump_with heap)
    (λ parts rows agree known. is_dump parts heap rows agree) wrote.health
    (λ again rows same union known. wrote.dump again rows same union)

-- writing stopped
pub returns : goal.returns
returns g c =
    let e = c.in-Ok-read_stored.ensures in
    let heap = heap_of c.in-Ok-read_stored.stored.heap in
    let wrote = c.in-Err-write_stored_dump.ensures in
    stopped_makes g.R.Source.left g.R.Source.health g.R.Source.pulls c.args.limits c.args.readers.now c.read_stored.new.readers
    g.W.Target.written g.W.Target.health IsDumpText (λ refusal heap. ⊥) c.args.target.now c.write_stored_dump.new.target
    g.S.Target.written g.S.Target.health (g.P.Parts.bytes c.args.parts.now) (g.S.Target.written c.args.scratch) c.in-Ok-read_stored.stored
    c.finish-objects.result (some_readers c.args.readers.now c.if-is_empty.ensures) c.requires.again e.ok c.finish-objects.ensures.holds
    e.reads e.first (λ rows. ⊤)
    (λ again same. let it = c.in_default-find_conflict.ensures.none again same in (it.0, it.1, tt))
    c.objects_stand_behind.ensures.objects c.objects_stand_behind.ensures.heap (dump_with heap)
    (λ parts rows agree known. is_dump parts heap rows agree) c.in-Err-write_stored_dump.stop c.fault_of_stop.result
    c.fault_of_stop.ensures wrote.health (λ again rows same union known. wrote.dump again rows same union)
    (λ parts again rows agree same union. wrote.stops again rows same union (are_sub_records parts heap rows agree)) wrote.again
