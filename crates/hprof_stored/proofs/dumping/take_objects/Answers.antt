use Rattle.std.proofs.Common.{List}
use Rattle.hprof_objects.specs.PartsRead.{PartRead}
use Rattle.hprof_objects.specs.StoredObjects.{AreToldAgain}
use Rattle.std.proofs.Common.{rules, sym, subst}
use Rattle.hprof_objects.specs.StoredObjects.{objects_of}
use Rattle.hprof_segments.specs.declared.segment_writer.SegmentWriter.{SegmentWriter}
use Rattle.hprof_segments.specs.Sink.{HasTakenRows}
use Rattle.hprof_stored.specs.Dumping.{bytes_of}
use Rattle.std.proofs.Common.{◌++◌}
use Rattle.hprof_stored.proofs.Subs.{stops_of_devices, same_lists, lists_taken, target_left, taken_into, left_in}
use Rattle.hprof_stored.proofs.dumping.take_objects.Goals as goal

pub returns-clause-taken : goal.returns-clause-taken
returns-clause-taken g c = λ reads rows told union start subs has.
    let m = c.merge in
    let sink = c.new-sink.result in
    let same = same_lists g.W.Target.written g.W.Target.health m.ensures.rows.0 m.result sink m.new.sink m.ensures.rows.1 in
    taken_into g.W.Target.written g.W.Target.health m.new.sink c.writer-1.given.0 c.target-1.given.0
    (search rules) (search rules) m.result start (subs ++ bytes_of rows)
    (lists_taken g.W.Target.written g.W.Target.health (objects_of reads) rows union start subs m.result sink m.new.sink
    (m.ensures.objects reads told)
    (subst (λ (s : SegmentWriter × g.row.W.Denot). HasTakenRows g.W.Target.written s start subs) (sym c.new-sink.ensures.state) has))

pub returns-clause-health : goal.returns-clause-health
returns-clause-health g c =
    let m = c.merge in
    let sink = c.new-sink.result in
    let same = same_lists g.W.Target.written g.W.Target.health m.ensures.rows.0 m.result sink m.new.sink m.ensures.rows.1 in
    left_in g.W.Target.written g.W.Target.health m.new.sink c.writer-1.given.0 c.target-1.given.0 (search rules) (search rules) m.result
    (target_left g.W.Target.written g.W.Target.health m.ensures.rows.0 m.result sink m.new.sink m.ensures.rows.1 m.ensures.well)

pub returns-clause-stops : goal.returns-clause-stops
returns-clause-stops g c =
    stops_of_devices g.W.Target.written g.W.Target.health (λ (reads : List PartRead). AreToldAgain g.S.Target.written g.S.Target.health
    c.args.limits (g.P.Parts.bytes c.args.parts.now) reads c.args.objects.now) c.merge.result c.new-sink.result c.merge.new.sink
    c.merge.ensures.objects
