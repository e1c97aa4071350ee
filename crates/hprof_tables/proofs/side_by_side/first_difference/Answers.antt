use Rattle.std.proofs.Common.{◌≡◌, true, false, sym}
use Rattle.hprof_tables.proofs.SideBySide.{taken, walk_begins, walk_taken, walk_ends, others_end, walk_less, walk_greater, walk_equal}
use Rattle.hprof_tables.proofs.SideBySide.{walk_differs}
use Rattle.hprof_tables.proofs.side_by_side.first_difference.Goals as goal

pub loop-first-init : goal.loop-first-init
loop-first-init g c =
    let content = g.R.Content.content in
    let left = g.I.KeyedRows.left in
    walk_begins (left c.args.rows) (left c.args.others) _ _
    (taken content left c.args.rows c.next_row-first.result c.next_row-first.new.self c.next_row-first.ensures)
    (taken content left c.args.others c.next_row-other_first.result c.next_row-other_first.new.self c.next_row-other_first.ensures)
    c.requires.ascending c.requires.others_ascending

pub returns-in_default-other_first : goal.returns-in_default-other_first
returns-in_default-other_first g c =
    others_end (g.I.KeyedRows.left c.args.rows) (g.I.KeyedRows.left c.args.others) g.R.Content.content c.loop-first.other_first _ _
    c.loop-first.invariant
    c.in_default-other_first.is

pub loop-first-preserved-in-Less-1 : goal.loop-first-preserved-in-Less-1
loop-first-preserved-in-Less-1 g c =
    let content = g.R.Content.content in
    let left = g.I.KeyedRows.left in
    let all = left c.args.rows in
    let others = left c.args.others in
    walk_less all others _ _ _ _
    (walk_taken all others content c.loop-first.first c.loop-first.other_first (c.in-Some.key, c.in-Some.row)
    (c.in-Some-other_first.other_key, c.in-Some-other_first.other)
    _ _ c.loop-first.invariant c.in-Some.is c.in-Some-other_first.is)
    _ (sym c.in-Less.ensures)
    (taken content left c.loop-first.rows c.next_row-first-in-Less.result c.next_row-first-in-Less.new.self
    c.next_row-first-in-Less.ensures)

pub loop-first-preserved-in-Greater-1 : goal.loop-first-preserved-in-Greater-1
loop-first-preserved-in-Greater-1 g c =
    let content = g.R.Content.content in
    let left = g.I.KeyedRows.left in
    let all = left c.args.rows in
    let others = left c.args.others in
    walk_greater all others _ _ _ _
    (walk_taken all others content c.loop-first.first c.loop-first.other_first (c.in-Some.key, c.in-Some.row)
    (c.in-Some-other_first.other_key, c.in-Some-other_first.other)
    _ _ c.loop-first.invariant c.in-Some.is c.in-Some-other_first.is)
    _ (sym c.in-Greater.ensures)
    (taken content left c.loop-first.others c.next_row-other_first-in-Greater.result c.next_row-other_first-in-Greater.new.self
    c.next_row-other_first-in-Greater.ensures)

pub returns-then-not-agrees : goal.returns-then-not-agrees
returns-then-not-agrees g c =
    let content = g.R.Content.content in
    let left = g.I.KeyedRows.left in
    let all = left c.args.rows in
    let others = left c.args.others in
    walk_differs all others _ _ _ _
    (walk_taken all others content c.loop-first.first c.loop-first.other_first (c.in-Some.key, c.in-Some.row)
    (c.in-Some-other_first.other_key, c.in-Some-other_first.other)
    _ _ c.loop-first.invariant c.in-Some.is c.in-Some-other_first.is)
    (sym c.in-Equal.ensures)
    (λ same. let yes : c.agrees.result ≡ true = c.agrees.ensures.1 same in let no : c.agrees.result ≡ false =
    c.if-not-agrees.true in absurd cc)

pub loop-first-preserved : goal.loop-first-preserved
loop-first-preserved g c =
    let content = g.R.Content.content in
    let left = g.I.KeyedRows.left in
    let all = left c.args.rows in
    let others = left c.args.others in
    walk_equal all others _ _ _ _
    (walk_taken all others content c.loop-first.first c.loop-first.other_first (c.in-Some.key, c.in-Some.row)
    (c.in-Some-other_first.other_key, c.in-Some-other_first.other)
    _ _ c.loop-first.invariant c.in-Some.is c.in-Some-other_first.is)
    _ _ (sym c.in-Equal.ensures) (c.agrees.ensures.0 c.if-not-agrees.false)
    (taken content left c.loop-first.rows c.next_row-first-in-Equal.result c.next_row-first-in-Equal.new.self
    c.next_row-first-in-Equal.ensures)
    (taken content left c.loop-first.others c.next_row-other_first-in-Equal.result c.next_row-other_first-in-Equal.new.self
    c.next_row-other_first-in-Equal.ensures)

pub returns : goal.returns
returns g c =
    walk_ends (g.I.KeyedRows.left c.args.rows) (g.I.KeyedRows.left c.args.others) g.R.Content.content c.loop-first.first _ _
    c.loop-first.invariant c.in_default.is
