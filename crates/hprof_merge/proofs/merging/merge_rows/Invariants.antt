use Rattle.std.proofs.Common.{◌≡◌, length}
use Rattle.std.specs.Prelude.{All, sum_by}
use Rattle.hprof_merge.specs.Contest.{heads_of, Matches}
use Rattle.hprof_merge.specs.Showing.{all_shown}
use Rattle.hprof_merge.specs.Stopping.{room_of}
use Rattle.hprof_merge.proofs.Rounds.{SoFar}
use Rattle.hprof_merge.proofs.merging.merge_rows.Given as goal

abbrev pub invariant-loop-key : goal.invariant-loop-key
invariant-loop-key g l =
    record {
      so_far : SoFar g.C.RowCursor.shown g.C.RowCursor.goes g.T.RowSink.steps l.fn.cursors l.cursors l.fn.sink l.sink;
      matches : Matches (heads_of l.contest) (all_shown g.C.RowCursor.shown l.cursors);
      well : All g.C.RowCursor.well l.cursors;
      sink : g.T.RowSink.well l.sink;
      heads : length (heads_of l.contest) ≡ length l.cursors;
    }

abbrev pub decreases-loop-key : goal.decreases-loop-key
decreases-loop-key g l = sum_by room_of (all_shown g.C.RowCursor.shown l.cursors)
