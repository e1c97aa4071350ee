use Rattle.std.proofs.Common.{◌≡◌, ◌+◌, ◌++◌, ◌∷◌, ◌∙◌, [], Global, List, Vec, ap, map, sym, subst, arith, slice_index}
use Rattle.std.proofs.lemmas.Grind.{get_or_default_zero}
use Rattle.std.proofs.lemmas.List.{map-append}
use Rattle.hprof_by_label.specs.LabelRows.{RowValue}
use Rattle.hprof_by_label.specs.RowValues.{AreRowsTo, row_value}
use Rattle.hprof_by_label.specs.declared.row.Row.{Row}
use Rattle.hprof_by_label.proofs.RowsSoFar.{rows_added, rows_begin, rows_skipped}
use Rattle.hprof_by_label.proofs.row.rows_of.Goals as goal
use Rattle.hprof_by_label.proofs.row.rows_of.Goals.{then-index-gt0+in_ok-push, else-index-gt0}

pub loop-number-init : goal.loop-number-init
loop-number-init c =
    let labels = c.args.labels.now in
    let bytes = c.args.own.now.bytes.items in
    let counts = c.args.own.now.counts.items in
    let retained = c.args.retained.now in
    subst (AreRowsTo labels bytes counts retained 0) (sym (ap (λ (l : List Row). map row_value l) c.new-rows.ensures.items))
    (rows_begin labels bytes counts retained)

pub loop-number-preserved : goal.loop-number-preserved
loop-number-preserved c =
    let labels = c.args.labels.now in
    let bytes = c.args.own.now.bytes.items in
    let counts = c.args.own.now.counts.items in
    let retained = c.args.retained.now in
    let number = c.loop-number.number in
    let rows = map row_value c.loop-number.rows.items in
    let many = c.requires.counts in
    let end = c.len-number-end.ensures in
    let test = c.loop-number-test.true in
    let at : c.index.result.now ≡ slice_index counts number =
    c.index.ensures ∙ get_or_default_zero counts number c.index.result.now (omega (arith, many, end, test)) in
    elim c.if-index-gt0.branch [
      | then-index-gt0+in_ok-push w ↦
          let added = rows_added labels bytes counts retained number rows c.loop-number.invariant c.args.labels.now.apart
          (omega (arith, end, test))
          (omega (arith, at, w.if-index-gt0.true)) in
          let items = ap (λ (v : Vec Row Global). map row_value v.items) w.rows-is
          ∙ ap (λ (l : List Row). map row_value l) w.in_ok-push.ensures.items
          ∙ map-append row_value c.loop-number.rows.items (w.row_of.result ∷ [])
          ∙ ap (λ (r : RowValue). rows ++ r ∷ []) w.row_of.ensures in
          subst (AreRowsTo labels bytes counts retained (number + 1)) (sym items) added
      | else-index-gt0 w ↦
          let skipped = rows_skipped labels bytes counts retained number rows c.loop-number.invariant
          (omega (arith, at, w.if-index-gt0.false)) in
          subst (AreRowsTo labels bytes counts retained (number + 1)) (sym (ap (λ
          (v : Vec Row Global). map row_value v.items) w.rows-is)) skipped
    ]
