use Rattle.std.proofs.Common.{◌≡◌, ◌<◌, ℕ, List, Some, length, get_or, sym, subst}
use Rattle.std.proofs.lemmas.Bool.{ltb-true}
use Rattle.hprof_tables.specs.SortedRows.{row_at}
use Rattle.hprof_tables.proofs.PageRows.{none_between, row_at_place}
use Rattle.hprof_tables.proofs.page.Page.get_near.Goals as goal

pub returns-then-row-key : goal.returns-then-row-key
returns-then-row-key g c =
    let page = c.args.self.now in
    let rows = page.rows.items in
    let row = c.in-Some.row.now in
    let place = c.guess-place.result in
    let value = c.deref.ensures.value in
    let lt : place < length rows = subst (λ (l : List (ℕ × g.row.V.Denot)). place < length l) value
    (ltb-true place (length c.deref.result.now) (sym c.in-Some.ensures.lookup.0)) in
    let here : row ≡ get_or rows place row = subst (λ (l : List (ℕ × g.row.V.Denot)). row ≡ get_or l place row) value
    c.in-Some.ensures.lookup.1 in
    let found = row_at_place rows place row page.sound.ascends lt here in
    sym (subst (λ (k : ℕ). row_at k rows ≡ Some row.1) c.if-row-key.true found)

pub returns-then-lies_behind : goal.returns-then-lies_behind
returns-then-lies_behind g c =
    let page = c.args.self.now in
    let rows = page.rows.items in
    let row = c.in-Some.row.now in
    let place = c.guess-place.result in
    let value = c.deref.ensures.value in
    let lt : place < length rows = subst (λ (l : List (ℕ × g.row.V.Denot)). place < length l) value
    (ltb-true place (length c.deref.result.now) (sym c.in-Some.ensures.lookup.0)) in
    let here : row ≡ get_or rows place row = subst (λ (l : List (ℕ × g.row.V.Denot)). row ≡ get_or l place row) value
    c.in-Some.ensures.lookup.1 in
    sym (none_between rows c.args.key place row page.sound.ascends lt here c.if-key-row.true (c.lies_behind.ensures c.if-lies_behind.true))
