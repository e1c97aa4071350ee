use Rattle.std.proofs.Common.{ap, sym, ◌∙◌}
use Rattle.hprof_tables.specs.SortedRows.{row_at}
use Rattle.hprof_tables.proofs.PageRows.{goes_new}
use Rattle.hprof_tables.proofs.SortedList.{at_err}
use Rattle.hprof_tables.proofs.TablePages.{key_row, row_there}
use Rattle.hprof_tables.proofs.sorted_table.SortedTable.visit_within.Goals as goal

pub returns-in_err-spot-in-Err-clause-absent : goal.returns-in_err-spot-in-Err-clause-absent
returns-in_err-spot-in-Err-clause-absent g c =
    let now = c.turn_to.new.self in
    let page = c.index.result.now in
    at_err c.from_residual-in_err-spot-in-Err.result _ (ap (row_at c.args.key) (sym (c.turn_to.ensures.rows ∙ c.begin.ensures.rows))
    ∙ key_row now.pages.items now.places.entries now.last c.args.key page now.listed (c.turn_to.ensures.has c.in_ok-begin.ensures.some)
    c.index.ensures
    ∙ goes_new c.args.key c.in-Err.place page.rows.items c.in-Err.ensures.new)

pub returns-in-Ok-clause-ok : goal.returns-in-Ok-clause-ok
returns-in-Ok-clause-ok g c =
    let now = c.turn_to.new.self in
    let rows = c.turn_to.ensures.rows ∙ c.begin.ensures.rows in
    let there = c.in-Ok.ensures.there in
    let row = c.index-in-Ok-2.result.now in (
      rows,
      (
        row.1,
        ap (row_at c.args.key) (sym rows)
            ∙ row_there now.pages.items now.places.entries now.last c.args.key c.in-Ok.place c.index.result.now
            c.index-in-Ok.result.now row now.listed (c.turn_to.ensures.has c.in_ok-begin.ensures.some) c.index.ensures
            c.index-in-Ok.ensures there.0 there.1
            c.index-in-Ok-2.ensures,
        c.ask.ensures,
      ),
    )
