use Rattle.std.proofs.Common.{map, rules}
use Rattle.std.specs.Ordering.{is_lt}
use Rattle.std.proofs.lemmas.List.Sorted.{IsPermutation-map, answers_always, ranks_by}
use Rattle.std.proofs.lemmas.Map.Keys.{IsDistinct-IsPermutation}
use Rattle.hprof_by_label.specs.LabelRows.{RowValue, row_cmp}
use Rattle.hprof_by_label.specs.RowValues.{row_value, same_label}
use Rattle.hprof_by_label.specs.declared.row.Row.{Row}
use Rattle.hprof_histogram.proofs.Ordered.{sorted_map}
use Rattle.hprof_by_label.proofs.RowOrder.{row_cmp_total, rows_ascend, same_label_flips}
use Rattle.hprof_by_label.proofs.rows.sort_rows.Goals as goal

pub returns-clause-ascend : goal.returns-clause-ascend
returns-clause-ascend c =
    let before = c.args.rows.now.items in
    let after = c.sort_unstable_by.new.self.items in
    rows_ascend (map row_value after)
    (sorted_map row_value (λ (row other : RowValue). is_lt (row_cmp row other)) after
    (c.sort_unstable_by.ensures.sorted (λ (row other : Row). is_lt (row_cmp (row_value row) (row_value other)))
    (ranks_by row_cmp_total row_value) (answers_always _ _ _ (λ f a r g k. search rules))))
    (IsDistinct-IsPermutation same_label same_label_flips (map row_value before) (map row_value after)
    (IsPermutation-map row_value before after c.sort_unstable_by.ensures.permutation) c.requires)

pub returns-clause-same : goal.returns-clause-same
returns-clause-same c =
    IsPermutation-map row_value c.args.rows.now.items c.sort_unstable_by.new.self.items c.sort_unstable_by.ensures.permutation
