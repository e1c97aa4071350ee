use Rattle.std.proofs.Common.{List, ℕ, map, subst}
use Rattle.hprof_by_label.specs.Labels.{label_count}
use Rattle.hprof_by_label.specs.RowValues.{AreRowsTo, row_value}
use Rattle.hprof_by_label.proofs.RowsSoFar.{are_rows}
use Rattle.hprof_by_label.proofs.rows.rows_in.Goals as goal

pub returns : goal.returns
returns c = λ ids facts agree tree are sizes.
    let labels = c.args.labels.now in
    let own = c.in_ok-own.own in
    let before = map row_value c.in_ok-rows.rows.items in
    let so = subst (λ (r : List ℕ). AreRowsTo labels own.bytes.items own.counts.items r (label_count labels) before) c.deref.ensures.value
    c.in_ok-rows.ensures in
    are_rows labels own.bytes.items own.counts.items c.in_ok-sums.sums.items ids facts agree c.args.retained.now tree are
    (c.in_ok-own.ensures.sums ids facts agree tree are sizes) (c.in_ok-sums.ensures.sums ids facts agree tree are) before
    (map row_value c.sort_rows.new.rows.items) so c.sort_rows.ensures.same c.sort_rows.ensures.ascend
