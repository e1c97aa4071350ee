use Rattle.std.proofs.Common.{Option, subst, sym, ◌∙◌}
use Rattle.hprof_tables.specs.declared.page.Page.{Page}
use Rattle.hprof_tables.specs.Pages.{HasKey}
use Rattle.hprof_tables.proofs.PageRows.{found_there}
use Rattle.hprof_tables.proofs.TablePages.{key_row, page_found, spot_is}
use Rattle.hprof_tables.proofs.sorted_table.SortedTable.spot_in.Goals as goal

pub unreachable-requires : goal.unreachable-requires
unreachable-requires g c =
    let table = c.args.self.now in
    let page = c.index.result.now in
    let there = c.in-Ok.ensures.there in
    found_there page.rows.items c.args.key c.in-Ok.field-0 page.sound.ascends there.0 there.1
    (sym (key_row table.pages.items table.places.entries c.args.page c.args.key page table.listed c.requires.has c.index.ensures)
    ∙ c.requires.new)

pub returns : goal.returns
returns g c =
    let table = c.args.self.now in
    let page = c.index.result.now in
    let there = page_found table.pages.items c.args.page c.args.key page c.requires.has c.index.ensures in
    let has = subst (λ (found : Option (Page g.row.V.Denot)). HasKey found c.args.key) there c.requires.has in
    spot_is table.pages.items c.args.key (record { page = c.args.page; place = c.in-Err.place }) page there has c.in-Err.ensures.new
