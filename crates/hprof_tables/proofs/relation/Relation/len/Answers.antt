use Rattle.std.proofs.Common.{sym, ◌∙◌}
use Rattle.hprof_tables.specs.SortedTable.{entries_of}
use Rattle.hprof_tables.proofs.PlacedRows.{placed_count}
use Rattle.hprof_tables.proofs.relation.Relation.len.Goals as goal

pub returns : goal.returns
returns g c =
    let table = c.args.self.now in
    c.len.ensures ∙ sym (placed_count table.rows.items (entries_of table.places) table.sound)
