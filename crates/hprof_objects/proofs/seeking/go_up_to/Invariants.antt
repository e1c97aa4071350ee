use Rattle.hprof_merge.specs.Showing.{only}
use Rattle.hprof_merge.specs.Stopping.{room_of}
use Rattle.hprof_objects.specs.Seeking.{ShowsUpTo}
use Rattle.hprof_objects.proofs.seeking.go_up_to.Given as goal

abbrev pub invariant-loop-next : goal.invariant-loop-next
invariant-loop-next g l = record {
  shows : ShowsUpTo g.C.RowCursor.shown g.C.RowCursor.goes l.key l.fn.cursor l.cursor;
  well : g.C.RowCursor.well l.cursor;
}

abbrev pub decreases-loop-next : goal.decreases-loop-next
decreases-loop-next g l = room_of (only (g.C.RowCursor.shown l.cursor))
