use Rattle.hprof_merge.specs.Rows.{ByteRow}
use Rattle.hprof_objects.proofs.GoneUp.{up_more}
use Rattle.hprof_objects.proofs.seeking.go_up_to.Goals as goal

pub loop-next-preserved : goal.loop-next-preserved
loop-next-preserved g c =
    let now = c.loop-next in
    let row : ByteRow = (c.in-Some.next, c.in-Some.field-0-1.now) in
    record {
      shows = up_more g.C.RowCursor.shown g.C.RowCursor.goes c.args.key c.args.cursor.now now.cursor c.advance.new.self row
          c.in-Some.ensures.0 now.invariant.shows c.in-Some.ensures.1 c.if-next-key.false c.in_ok-advance.ensures.goes;
      well = c.in_ok-advance.ensures.well;
    }
