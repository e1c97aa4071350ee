use Rattle.std.proofs.Common.{◌+◌, length}
use Rattle.hprof_tables.specs.Relation.{contents_of}
use Rattle.hprof_tables.proofs.Missing.{Search}
use Rattle.hprof_tables.proofs.SideBySide.{behind}
use Rattle.hprof_tables.proofs.side_by_side.missing_rows.Given as goal

abbrev pub invariant-loop-other_first : goal.invariant-loop-other_first
invariant-loop-other_first g l =
    Search (g.I.KeyedRows.left l.fn.rows) (g.J.KeyedRows.left l.fn.others)
    (behind g.S.Content.content l.first (g.I.KeyedRows.left l.rows)) (behind g.R.Content.content l.other_first
    (g.J.KeyedRows.left l.others))
    (contents_of g.R.Content.content l.missing.items)

abbrev pub decreases-loop-other_first : goal.decreases-loop-other_first
decreases-loop-other_first g l =
    length (behind g.S.Content.content l.first (g.I.KeyedRows.left l.rows)) + length (behind g.R.Content.content l.other_first
    (g.J.KeyedRows.left l.others))
