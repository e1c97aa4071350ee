use Rattle.std.proofs.Common.{rules, List, subst}
use Rattle.hprof_objects.specs.PartsRead.{PartRead}
use Rattle.hprof_objects.specs.StoredObjects.{AreToldAgain, objects_of}
use Rattle.hprof_stored.specs.Dumping.{WritesOrStops}
use Rattle.hprof_stored101.specs.Dumping101.{rows_bytes}
use Rattle.hprof_stored101.proofs.Rows.{left_in, rows_written, same_lists, stops_of_devices, target_left, written_into}
use Rattle.hprof_stored101.proofs.dumping101.write_objects.Goals as goal

pub returns-clause-bytes : goal.returns-clause-bytes
returns-clause-bytes g c = λ reads rows told union.
    let m = c.merge in
    let writer = c.new-writer.result in
    let new = g.W.Target.written m.new.sink.target.now in
    let same = same_lists g.W.Target.written g.W.Target.health m.ensures.rows.0 m.result writer m.new.sink m.ensures.rows.1 in
    written_into g.W.Target.written g.W.Target.health m.new.sink _ (search rules) m.result
    (g.W.Target.written c.args.target.now) (rows_bytes rows)
    (subst (λ (t : g.row.W.Denot). WritesOrStops (g.W.Target.written t) new m.result (rows_bytes rows))
    c.new-writer.ensures.target
    (rows_written g.W.Target.written g.W.Target.health (objects_of reads) rows union m.result writer m.new.sink
    (m.ensures.objects reads told)))

pub returns-clause-health : goal.returns-clause-health
returns-clause-health g c =
    let m = c.merge in
    let writer = c.new-writer.result in
    let same = same_lists g.W.Target.written g.W.Target.health m.ensures.rows.0 m.result writer m.new.sink m.ensures.rows.1 in
    left_in g.W.Target.written g.W.Target.health m.new.sink _ (search rules) m.result
    (target_left g.W.Target.written g.W.Target.health m.ensures.rows.0 m.result writer m.new.sink m.ensures.rows.1 m.ensures.well)

pub returns-clause-stops : goal.returns-clause-stops
returns-clause-stops g c =
    stops_of_devices g.W.Target.written g.W.Target.health (λ (reads : List PartRead). AreToldAgain g.S.Target.written g.S.Target.health
    c.args.limits (g.P.Parts.bytes c.args.parts.now) reads c.args.objects.now) c.merge.result c.new-writer.result c.merge.new.sink
    c.merge.ensures.objects
