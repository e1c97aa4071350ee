use Rattle.std.proofs.Common.{sym, ◌∙◌}
use Rattle.hprof_tables.proofs.TablePages.{key_row}
use Rattle.hprof_tables.proofs.sorted_table.SortedTable.get.Goals as goal

pub returns : goal.returns
returns g c =
    let table = c.args.self.now in
    c.get.ensures ∙ sym (key_row table.pages.items table.places.entries c.page_near.result c.args.key c.index.result.now table.listed
    c.page_near.ensures c.index.ensures)
