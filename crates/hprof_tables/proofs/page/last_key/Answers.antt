use Rattle.std.proofs.Common.{◌≡◌, ◌+◌, ◌<◌, ◌≤◌, arith, rules}
use Rattle.hprof_tables.specs.SortedRows.{end_of}
use Rattle.hprof_tables.proofs.SortedRows.{AreKeys-weaker, below_end}
use Rattle.hprof_tables.proofs.PageRows.{end_of-last}
use Rattle.hprof_tables.proofs.page.last_key.Goals as goal

pub returns-in-Some : goal.returns-in-Some
returns-in-Some g c =
    let rows = c.args.rows.now in
    let row = c.in-Some.row.now in
    let last : end_of rows ≡ row.0 + 1 = end_of-last rows row (search rules) in
    AreKeys-weaker (λ key. key < end_of rows) (λ key. key ≤ row.0) rows (λ key lt. omega arith) (below_end rows c.requires)
