use Rattle.std.proofs.Common.{◌≡◌, ◌<◌, ◌≤◌, ℕ, length, None}
use Rattle.hprof_merge.specs.Rows.{first_key}
use Rattle.hprof_merge.specs.Union.{rows_at}
use Rattle.hprof_merge.specs.Showing.{all_shown}
use Rattle.hprof_merge.specs.Tree.{head_at}
use Rattle.hprof_merge.specs.Contest.{heads_of}
use Rattle.hprof_merge.proofs.merging.enter.Given as goal

abbrev pub invariant-loop-place : goal.invariant-loop-place
invariant-loop-place g l =
    record {
      count : length (heads_of l.contest) ≡ length l.cursors;
      heads : (place : ℕ) → place < l.place → head_at (heads_of l.contest) place
          ≡ first_key (rows_at (all_shown g.C.RowCursor.shown l.cursors) place);
      rest : (place : ℕ) → l.place ≤ place → head_at (heads_of l.contest) place ≡ None;
    }
