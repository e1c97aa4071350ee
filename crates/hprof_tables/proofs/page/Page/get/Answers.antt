use Rattle.std.proofs.Common.{◌≡◌, ℕ, Some, sym, ap, subst, ◌∙◌}
use Rattle.hprof_tables.specs.SortedRows.{row_at}
use Rattle.hprof_tables.proofs.PageRows.{goes_new, row_at_place}
use Rattle.hprof_tables.proofs.page.Page.get.Goals as goal

pub returns-in-Ok : goal.returns-in-Ok
returns-in-Ok g c =
    let page = c.args.self.now in
    let row = c.index.result.now in
    let here = c.in-Ok.ensures.there in
    let same : row.0 ≡ c.args.key = ap (λ (r : ℕ × g.row.V.Denot). r.0) c.index.ensures ∙ here.1 row in
    sym (subst (λ (k : ℕ). row_at k page.rows.items ≡ Some row.1) same
    (row_at_place page.rows.items c.in-Ok.place row page.sound.ascends here.0 c.index.ensures))

pub returns-in-Err : goal.returns-in-Err
returns-in-Err g c = sym (goes_new c.args.key c.in-Err.field-0 c.args.self.now.rows.items c.in-Err.ensures.new)
