use Rattle.std.proofs.Common.{◌+◌, length}
use Rattle.hprof_tables.proofs.SideBySide.{behind, Walk}
use Rattle.hprof_tables.proofs.side_by_side.first_difference.Given as goal

abbrev pub invariant-loop-first : goal.invariant-loop-first
invariant-loop-first g l =
    Walk (g.I.KeyedRows.left l.fn.rows) (g.I.KeyedRows.left l.fn.others)
    (behind g.R.Content.content l.first (g.I.KeyedRows.left l.rows)) (behind g.R.Content.content l.other_first
    (g.I.KeyedRows.left l.others))

abbrev pub decreases-loop-first : goal.decreases-loop-first
decreases-loop-first g l =
    length (behind g.R.Content.content l.first (g.I.KeyedRows.left l.rows)) + length (behind g.R.Content.content l.other_first
    (g.I.KeyedRows.left l.others))
