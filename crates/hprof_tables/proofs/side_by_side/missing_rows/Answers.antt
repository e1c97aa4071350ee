use Rattle.std.proofs.Common.{◌∷◌, ℕ, List, [], sym, ap, subst, ◌∙◌}
use Rattle.hprof_tables.specs.Relation.{contents_of}
use Rattle.hprof_tables.proofs.Missing.{Search, search_taken, search_ended, search_ends, search_past, search_less, search_greater}
use Rattle.hprof_tables.proofs.Missing.{search_equal, lacked_past, lacked_greater, contents-append, on_err}
use Rattle.hprof_tables.proofs.SideBySide.{behind, taken}
use Rattle.hprof_tables.proofs.side_by_side.missing_rows.Goals as goal

pub loop-other_first-preserved-in_default-first : goal.loop-other_first-preserved-in_default-first
loop-other_first-preserved-in_default-first g c =
    let own = g.S.Content.content in
    let content = g.R.Content.content in
    let left = g.I.KeyedRows.left in
    let other_left = g.J.KeyedRows.left in
    let all = left c.args.rows in
    let others = other_left c.args.others in
    let rest = behind content c.next_row-other_first-in_default-first.result
    (other_left c.next_row-other_first-in_default-first.new.self) in
    subst (λ (found : List (ℕ × List ℕ)). Search all others [] rest found)
    (sym (ap (contents_of content) c.in_ok-push.ensures.items ∙ contents-append content c.loop-other_first.missing.items
    (c.in-Some.other_key, c.in-Some.other)))
    (search_past all others _ _ _ _
    (search_ended all others own content c.loop-other_first.first c.loop-other_first.other_first (c.in-Some.other_key, c.in-Some.other)
    _ _ _
    c.loop-other_first.invariant c.in_default-first.is c.in-Some.is)
    (taken content other_left c.loop-other_first.others c.next_row-other_first-in_default-first.result
    c.next_row-other_first-in_default-first.new.self
    c.next_row-other_first-in_default-first.ensures))

pub loop-other_first-preserved-in-Less-1 : goal.loop-other_first-preserved-in-Less-1
loop-other_first-preserved-in-Less-1 g c =
    let own = g.S.Content.content in
    let content = g.R.Content.content in
    let left = g.I.KeyedRows.left in
    let other_left = g.J.KeyedRows.left in
    let all = left c.args.rows in
    let others = other_left c.args.others in
    search_less all others _ _ _ _ _
    (search_taken all others own content c.loop-other_first.first c.loop-other_first.other_first (c.in-Some-first.key, c.in-Some-first.row)
    (c.in-Some.other_key, c.in-Some.other) _ _ _ c.loop-other_first.invariant c.in-Some-first.is c.in-Some.is)
    _ (sym c.in-Less.ensures)
    (taken own left c.loop-other_first.rows c.next_row-first-in-Less.result c.next_row-first-in-Less.new.self
    c.next_row-first-in-Less.ensures)

pub loop-other_first-preserved-in-Greater : goal.loop-other_first-preserved-in-Greater
loop-other_first-preserved-in-Greater g c =
    let own = g.S.Content.content in
    let content = g.R.Content.content in
    let left = g.I.KeyedRows.left in
    let other_left = g.J.KeyedRows.left in
    let all = left c.args.rows in
    let others = other_left c.args.others in
    let rest = behind content c.next_row-other_first-in-Greater.result (other_left c.next_row-other_first-in-Greater.new.self) in
    subst (λ (found : List (ℕ × List ℕ)).
    Search all others ((c.in-Some-first.key, own c.in-Some-first.row) ∷ left c.loop-other_first.rows) rest found)
    (sym (ap (contents_of content) c.in_ok-push-in-Greater.ensures.items ∙ contents-append content c.loop-other_first.missing.items
    (c.in-Some.other_key, c.in-Some.other)))
    (search_greater all others _ _ _ _ _
    (search_taken all others own content c.loop-other_first.first c.loop-other_first.other_first (c.in-Some-first.key, c.in-Some-first.row)
    (c.in-Some.other_key, c.in-Some.other) _ _ _ c.loop-other_first.invariant c.in-Some-first.is c.in-Some.is)
    _ (sym c.in-Greater.ensures)
    (taken content other_left c.loop-other_first.others c.next_row-other_first-in-Greater.result c.next_row-other_first-in-Greater.new.self
    c.next_row-other_first-in-Greater.ensures))

pub loop-other_first-preserved : goal.loop-other_first-preserved
loop-other_first-preserved g c =
    let own = g.S.Content.content in
    let content = g.R.Content.content in
    let left = g.I.KeyedRows.left in
    let other_left = g.J.KeyedRows.left in
    let all = left c.args.rows in
    let others = other_left c.args.others in
    search_equal all others _ _ _ _ _
    (search_taken all others own content c.loop-other_first.first c.loop-other_first.other_first (c.in-Some-first.key, c.in-Some-first.row)
    (c.in-Some.other_key, c.in-Some.other) _ _ _ c.loop-other_first.invariant c.in-Some-first.is c.in-Some.is)
    _ _ (sym c.in-Equal.ensures)
    (taken own left c.loop-other_first.rows c.next_row-first-in-Equal.result c.next_row-first-in-Equal.new.self
    c.next_row-first-in-Equal.ensures)
    (taken content other_left c.loop-other_first.others c.next_row-other_first-in-Equal.result c.next_row-other_first-in-Equal.new.self
    c.next_row-other_first-in-Equal.ensures)

pub returns-clause-ok : goal.returns-clause-ok
returns-clause-ok g c =
    search_ends (g.I.KeyedRows.left c.args.rows) (g.J.KeyedRows.left c.args.others) g.R.Content.content c.loop-other_first.other_first _ _ _
    c.loop-other_first.invariant c.in_default.is

pub returns-in_err-push-clause-absent : goal.returns-in_err-push-clause-absent
returns-in_err-push-clause-absent g c =
    let all = g.I.KeyedRows.left c.args.rows in
    let others = g.J.KeyedRows.left c.args.others in
    on_err c.from_residual.result
    (lacked_past all others _ _ _
    (search_ended all others g.S.Content.content g.R.Content.content c.loop-other_first.first c.loop-other_first.other_first
    (c.in-Some.other_key, c.in-Some.other) _ _ _ c.loop-other_first.invariant c.in_default-first.is c.in-Some.is))

pub returns-in_err-push-in-Greater-clause-absent : goal.returns-in_err-push-in-Greater-clause-absent
returns-in_err-push-in-Greater-clause-absent g c =
    let all = g.I.KeyedRows.left c.args.rows in
    let others = g.J.KeyedRows.left c.args.others in
    on_err c.from_residual-in_err-push-in-Greater.result
    (lacked_greater all others _ _ _ _ _
    (search_taken all others g.S.Content.content g.R.Content.content c.loop-other_first.first c.loop-other_first.other_first
    (c.in-Some-first.key, c.in-Some-first.row) (c.in-Some.other_key, c.in-Some.other) _ _ _ c.loop-other_first.invariant
    c.in-Some-first.is c.in-Some.is)
    (sym c.in-Greater.ensures))
