use Rattle.std.proofs.Common.{◌≡◌, ◌≤◌, length}
use Rattle.std.specs.Prelude.{All, sum_by}
use Rattle.hprof_merge.specs.Contest.{heads_of}
use Rattle.hprof_merge.specs.Showing.{all_shown}
use Rattle.hprof_merge.specs.Stopping.{room_of, PassesEquals}
use Rattle.hprof_merge.proofs.merging.pass_equals.Given as goal

abbrev pub invariant-loop-place : goal.invariant-loop-place
invariant-loop-place g l =
    record {
      passes : PassesEquals g.C.RowCursor.shown g.C.RowCursor.goes l.key l.held l.fn.cursors l.cursors (heads_of l.contest);
      well : All g.C.RowCursor.well l.cursors;
      count : length l.cursors ≡ length l.fn.cursors;
      heads : length (heads_of l.contest) ≡ length l.fn.cursors;
      fewer : sum_by room_of (all_shown g.C.RowCursor.shown l.cursors) ≤ sum_by room_of (all_shown g.C.RowCursor.shown l.fn.cursors);
    }

abbrev pub decreases-loop-place : goal.decreases-loop-place
decreases-loop-place g l = sum_by room_of (all_shown g.C.RowCursor.shown l.cursors)
