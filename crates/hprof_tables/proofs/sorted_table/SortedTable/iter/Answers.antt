use Rattle.hprof_tables.proofs.Pages.{listed-ascending}
use Rattle.hprof_tables.proofs.sorted_table.SortedTable.iter.Goals as goal

pub returns-clause-ascending : goal.returns-clause-ascending
returns-clause-ascending g c = let table = c.args.self.now in listed-ascending table.pages.items table.places.entries table.listed
