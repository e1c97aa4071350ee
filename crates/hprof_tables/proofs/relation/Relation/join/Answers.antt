use Rattle.std.proofs.Common.{◌≡◌, ◌<◌, length, rules, subst, ◌∙◌}
use Rattle.std.proofs.lemmas.List.{length-map}
use Rattle.std.proofs.lemmas.Result.{IfOk-weaker}
use Rattle.hprof_tables.specs.Relation.{contents_of, rows_of}
use Rattle.hprof_tables.specs.SortedRows.{IsAscending}
use Rattle.hprof_tables.proofs.Contents.{contents_up, missing_of, union_missing}
use Rattle.hprof_tables.proofs.Missing.{missing_lacks, on_err}
use Rattle.hprof_tables.proofs.Unions.{nothing_taken}
use Rattle.hprof_tables.proofs.relation.Relation.join.Goals as goal

pub missing_rows-requires-clause-ascending : goal.missing_rows-requires-clause-ascending
missing_rows-requires-clause-ascending g c = contents_up g.V.Content.content _ c.rows.ensures.ascending

pub missing_rows-requires-clause-others_ascending : goal.missing_rows-requires-clause-others_ascending
missing_rows-requires-clause-others_ascending g c = contents_up g.V.Content.content _ c.rows-2.ensures.ascending

pub returns-then-is_empty-clause-ok : goal.returns-then-is_empty-clause-ok
returns-then-is_empty-clause-ok g c =
    let content = g.V.Content.content in
    let rows = rows_of c.args.self.now in
    let others = rows_of c.args.other.now in
    let missing = contents_of (λ row. content row.now) c.in_ok-missing.missing.items in
    let are = missing_of content _ _ rows others _ c.rows.ensures.all c.rows-2.ensures.all c.in_ok-missing.ensures.ok in
    let up = contents_up content rows (subst IsAscending c.rows.ensures.all c.rows.ensures.ascending) in
    let empty : length c.in_ok-missing.missing.items ≡ 0 = search rules in
    union_missing (contents_of content rows) (contents_of content others) missing (contents_of content rows) are
    (nothing_taken (contents_of content rows) missing up (length-map c.in_ok-missing.missing.items (λ row. (row.0, content row.1.now))
    ∙ empty))

pub returns-clause-ok : goal.returns-clause-ok
returns-clause-ok g c =
    let content = g.V.Content.content in
    let rows = rows_of c.args.self.now in
    let others = rows_of c.args.other.now in
    let missing = contents_of (λ row. content row.now) c.in_ok-missing.missing.items in
    let are = missing_of content _ _ rows others _ c.rows.ensures.all c.rows-2.ensures.all c.in_ok-missing.ensures.ok in
    IfOk-weaker c.take_rows.result _ _
    (λ done union. union_missing (contents_of content rows) (contents_of content others) missing
    (contents_of content (rows_of c.take_rows.new.self)) are union)
    c.take_rows.ensures.ok

pub returns-clause-absent : goal.returns-clause-absent
returns-clause-absent g c =
    let content = g.V.Content.content in
    let rows = rows_of c.args.self.now in
    let others = rows_of c.args.other.now in
    let are = missing_of content _ _ rows others _ c.rows.ensures.all c.rows-2.ensures.all c.in_ok-missing.ensures.ok in
    let some : 0 < length c.in_ok-missing.missing.items = search rules in
    on_err c.take_rows.result
    (missing_lacks (λ row. content row.now) (contents_of content rows) (contents_of content others) c.in_ok-missing.missing.items are some)

pub returns-clause-unchanged : goal.returns-clause-unchanged
returns-clause-unchanged g c =
    let content = g.V.Content.content in
    let rows = rows_of c.args.self.now in
    let others = rows_of c.args.other.now in
    let are = missing_of content _ _ rows others _ c.rows.ensures.all c.rows-2.ensures.all c.in_ok-missing.ensures.ok in
    let some : 0 < length c.in_ok-missing.missing.items = search rules in
    let lacked = missing_lacks (λ row. content row.now) (contents_of content rows) (contents_of content others)
    c.in_ok-missing.missing.items
    are some in
    IfOk-weaker c.take_rows.result _ _ (λ done union lacks. absurd (lacks lacked)) c.take_rows.ensures.ok
