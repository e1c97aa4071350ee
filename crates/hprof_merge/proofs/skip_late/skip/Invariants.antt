use Rattle.std.proofs.Common.{◌≤◌, ◌-◌}
use Rattle.hprof_merge.proofs.Skipping.{Skipped}
use Rattle.hprof_merge.proofs.skip_late.skip.Given as goal

abbrev pub invariant-loop-key : goal.invariant-loop-key
invariant-loop-key g l =
    record {
      so_far : Skipped g.C.RowCursor.shown g.C.RowCursor.goes l.key l.skipped l.fn.cursor l.cursor;
      well : g.C.RowCursor.well l.cursor;
      few : l.skipped ≤ l.limit;
    }

abbrev pub decreases-loop-key : goal.decreases-loop-key
decreases-loop-key g l = l.limit - l.skipped
