use Rattle.std.proofs.Common.{◌≡◌, ◌≤◌, ℕ, get_or, ap, arith}
use Rattle.std.proofs.lemmas.Bool.{ltb-true}
use Rattle.hprof_tables.proofs.PageRows.{not_falling}
use Rattle.hprof_tables.proofs.page.Page.lies_behind.Goals as goal

pub returns-in-Some : goal.returns-in-Some
returns-in-Some g c = λ test other d before.
    let page = c.args.self.now in
    let rows = page.rows.items in
    let row = c.index.result.now in
    let less = ltb-true row.0 c.args.key test in
    let le : (get_or rows other d).0 ≤ (get_or rows c.in-Some.before row).0 =
    not_falling rows other c.in-Some.before d row page.sound.ascends (omega arith) (omega arith) in
    let same : row.0 ≡ (get_or rows c.in-Some.before row).0 = ap (λ (r : ℕ × g.row.V.Denot). r.0) c.index.ensures in
    omega arith
