use Rattle.std.proofs.Common.{◌≡◌, length}
use Rattle.std.specs.Prelude.{◌↔◌}
use Rattle.hprof_tables.proofs.side_by_side.same_rows.Given as goal

-- what is left of both is the same exactly where both are
abbrev pub invariant-loop-key : goal.invariant-loop-key
invariant-loop-key g l = (g.I.KeyedRows.left l.rows ≡ g.I.KeyedRows.left l.others) ↔ (g.I.KeyedRows.left l.fn.rows
    ≡ g.I.KeyedRows.left l.fn.others)

abbrev pub decreases-loop-key : goal.decreases-loop-key
decreases-loop-key g l = length (g.I.KeyedRows.left l.rows)
