use Rattle.std.proofs.Common.{List, [], Result, subst, sym}
use Rattle.std.specs.Prelude.{All}
use Rattle.hprof_merge.specs.OneOf.{holds_either}
use Rattle.hprof_runs.specs.AnyRows.{any_well}
use Rattle.hprof_objects.specs.declared.object_fault.ObjectFault.{ObjectFault}
use Rattle.hprof_objects.specs.MergedObjects.{IfScratchFails, MergesLists, StopsWithin, TellsChange}
use Rattle.hprof_objects.specs.ObjectCursors.{ObjectCursor, OpensObjects}
use Rattle.hprof_objects.specs.StoredObjects.{objects_of, scratch_under}
use Rattle.hprof_objects.specs.StretchCursor.{CanGoOn}
use Rattle.hprof_objects.proofs.MergedObjects.{merged_all, stopped_objects, stopped_reads, stopped_some, stopped_tells}
use Rattle.hprof_objects.proofs.PassedOn.{at_error}
use Rattle.hprof_objects.proofs.Stops.{stops_before}
use Rattle.hprof_objects.proofs.stored_objects.StoredObjects.merge.Goals as goal

pub returns-in_err-cursors-clause-rows : goal.returns-in_err-cursors-clause-rows
returns-in_err-cursors-clause-rows g c = (
  [],
  at_error (λ (r : Result (Unit {0}) (ObjectFault g.row.T-Fault.Denot)). MergesLists g.T.RowSink.steps g.T.RowSink.refuses [] r
      c.args.sink.now c.args.sink.now) c.from_residual.result c.in_err-cursors.field-0.0
      (stops_before g.T.RowSink.steps g.T.RowSink.refuses c.in_err-cursors.field-0.0 c.in_err-cursors.ensures.before [] c.args.sink.now)
      c.from_residual.ensures.1,
)

pub returns-in_err-cursors-clause-objects : goal.returns-in_err-cursors-clause-objects
returns-in_err-cursors-clause-objects g c = λ reads again.
    at_error (λ (r : Result (Unit {0}) (ObjectFault g.row.T-Fault.Denot)). MergesLists g.T.RowSink.steps g.T.RowSink.refuses
    (objects_of reads) r c.args.sink.now c.args.sink.now) c.from_residual.result c.in_err-cursors.field-0.0
    (stops_before g.T.RowSink.steps g.T.RowSink.refuses c.in_err-cursors.field-0.0 c.in_err-cursors.ensures.before (objects_of reads)
    c.args.sink.now)
    c.from_residual.ensures.1

pub merge_rows-requires-clause-well : goal.merge_rows-requires-clause-well
merge_rows-requires-clause-well g c =
    subst (λ (l : List (ObjectCursor g.row.S.Denot g.row.R.Denot)). All (holds_either any_well (CanGoOn g.R.Source.health)) l)
    (sym c.deref_mut.ensures.value) c.in_ok-cursors.ensures.well

pub returns-in-Ok-clause-objects : goal.returns-in-Ok-clause-objects
returns-in-Ok-clause-objects g c =
    let told = g.P.Parts.bytes c.args.parts.now in
    let slice = c.deref_mut.result.now in
    let opens = subst (OpensObjects g.R.Source.left g.R.Source.health g.R.Source.pulls c.args.limits told g.S.Target.written
    g.S.Target.health c.args.self.now) (sym c.deref_mut.ensures.value) c.in_ok-cursors.ensures.opens in
    merged_all g.S.Target.written g.S.Target.health g.S.Scratch.unreadable g.R.Source.left g.R.Source.health g.R.Source.pulls c.args.limits
    told c.args.self.now slice opens g.T.RowSink.steps c.merge_rows.new.cursors c.args.sink.now c.merge_rows.new.sink
    c.in-Ok.ensures.merged

pub returns-clause-rows : goal.returns-clause-rows
returns-clause-rows g c =
    let told = g.P.Parts.bytes c.args.parts.now in
    let slice = c.deref_mut.result.now in
    let opens = subst (OpensObjects g.R.Source.left g.R.Source.health g.R.Source.pulls c.args.limits told g.S.Target.written
    g.S.Target.health c.args.self.now) (sym c.deref_mut.ensures.value) c.in_ok-cursors.ensures.opens in
    let some = stopped_some g.S.Target.written g.S.Target.health g.S.Scratch.unreadable g.R.Source.left g.R.Source.health g.R.Source.pulls
    c.args.limits told c.args.self.now slice opens g.T.RowSink.steps g.T.RowSink.refuses c.merge_rows.new.cursors c.in-Err.stop
    c.args.sink.now c.merge_rows.new.sink c.in-Err.ensures.stop in (
      some.0,
      subst (λ (s : ObjectFault g.row.T-Fault.Denot). StopsWithin g.T.RowSink.steps g.T.RowSink.refuses some.0 s c.args.sink.now
          c.merge_rows.new.sink) (sym c.stop_of.ensures) some.1,
    )

pub returns-clause-objects : goal.returns-clause-objects
returns-clause-objects g c = λ reads again.
    let told = g.P.Parts.bytes c.args.parts.now in
    let slice = c.deref_mut.result.now in
    let opens = subst (OpensObjects g.R.Source.left g.R.Source.health g.R.Source.pulls c.args.limits told g.S.Target.written
    g.S.Target.health c.args.self.now) (sym c.deref_mut.ensures.value) c.in_ok-cursors.ensures.opens in
    subst (λ (s : ObjectFault g.row.T-Fault.Denot). StopsWithin g.T.RowSink.steps g.T.RowSink.refuses (objects_of reads) s c.args.sink.now
    c.merge_rows.new.sink) (sym c.stop_of.ensures)
    (stopped_objects g.S.Target.written g.S.Target.health g.S.Scratch.unreadable g.R.Source.left g.R.Source.health g.R.Source.pulls
    c.args.limits told c.args.self.now slice opens g.T.RowSink.steps g.T.RowSink.refuses c.merge_rows.new.cursors c.in-Err.stop
    c.args.sink.now c.merge_rows.new.sink c.in-Err.ensures.stop reads again)

pub returns-clause-again : goal.returns-clause-again
returns-clause-again g c =
    let told = g.P.Parts.bytes c.args.parts.now in
    let slice = c.deref_mut.result.now in
    let opens = subst (OpensObjects g.R.Source.left g.R.Source.health g.R.Source.pulls c.args.limits told g.S.Target.written
    g.S.Target.health c.args.self.now) (sym c.deref_mut.ensures.value) c.in_ok-cursors.ensures.opens in
    subst (λ (s : ObjectFault g.row.T-Fault.Denot). TellsChange g.S.Target.written g.S.Target.health c.args.limits told c.args.self.now s)
    (sym c.stop_of.ensures)
    (stopped_tells g.S.Target.written g.S.Target.health g.S.Scratch.unreadable g.R.Source.left g.R.Source.health g.R.Source.pulls
    c.args.limits told c.args.self.now slice opens g.T.RowSink.steps g.T.RowSink.refuses c.merge_rows.new.cursors c.in-Err.stop
    c.args.sink.now c.merge_rows.new.sink c.in-Err.ensures.stop)

pub returns-clause-read : goal.returns-clause-read
returns-clause-read g c =
    let told = g.P.Parts.bytes c.args.parts.now in
    let slice = c.deref_mut.result.now in
    let opens = subst (OpensObjects g.R.Source.left g.R.Source.health g.R.Source.pulls c.args.limits told g.S.Target.written
    g.S.Target.health c.args.self.now) (sym c.deref_mut.ensures.value) c.in_ok-cursors.ensures.opens in
    subst (λ (s : ObjectFault g.row.T-Fault.Denot). IfScratchFails s (g.S.Scratch.unreadable (scratch_under c.args.self.now)))
    (sym c.stop_of.ensures)
    (stopped_reads g.S.Target.written g.S.Target.health g.S.Scratch.unreadable g.R.Source.left g.R.Source.health g.R.Source.pulls
    c.args.limits told c.args.self.now slice opens g.T.RowSink.steps g.T.RowSink.refuses c.merge_rows.new.cursors c.in-Err.stop
    c.args.sink.now c.merge_rows.new.sink c.in-Err.ensures.stop)
