use Rattle.std.proofs.Common.{subst, sym}
use Rattle.hprof_tables.specs.SortedRows.{IsAscending}
use Rattle.hprof_tables.specs.SortedTable.{entries_left}
use Rattle.hprof_tables.proofs.PlacedRows.{placed_ascend}
use Rattle.hprof_tables.proofs.relation.Relation.rows.Goals as goal

pub returns-clause-ascending : goal.returns-clause-ascending
returns-clause-ascending g c =
    subst IsAscending (sym c.new.ensures)
    (placed_ascend c.as_slice.result.now (entries_left c.iter.result)
    (rw (c.as_slice.ensures.value, c.iter.ensures.all) c.args.self.now.sound)
    (rw c.iter.ensures.all c.iter.ensures.ascending))
