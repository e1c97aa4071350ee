use Rattle.std.proofs.Common.{sym, subst}
use Rattle.hprof_tables.specs.SortedRows.{IsAscending}
use Rattle.hprof_tables.proofs.Pages.{listed-ascending}
use Rattle.hprof_tables.proofs.sorted_table.SortedTable.copied.Goals as goal

pub of-requires : goal.of-requires
of-requires g c =
    let table = c.args.self.now in
    subst IsAscending (sym c.in_ok-rows.ensures) (listed-ascending table.pages.items table.places.entries table.listed)
