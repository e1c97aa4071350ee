use Rattle.std.proofs.Common.{rules}
use Rattle.std.specs.Ordering.{is_lt}
use Rattle.std.proofs.lemmas.List.Sorted.{answers_always, ranks_by}
use Rattle.std.proofs.lemmas.Map.Keys.{IsDistinct-IsPermutation}
use Rattle.hprof_histogram.specs.declared.row.Row.{Row}
use Rattle.hprof_histogram.specs.Histogram.{row_cmp}
use Rattle.hprof_histogram.proofs.RowOrder.{row_cmp_total, rows_ascend, same_kind_flips, same_row_kind}
use Rattle.hprof_histogram.proofs.sorting.sort_rows.Goals as goal

pub returns-clause-ascend : goal.returns-clause-ascend
returns-clause-ascend c =
    let before = c.args.rows.now.items in
    let after = c.sort_unstable_by.new.self.items in
    rows_ascend after
    (c.sort_unstable_by.ensures.sorted (λ (row other : Row). is_lt (row_cmp row other)) (ranks_by row_cmp_total (λ (row : Row). row))
    (answers_always _ _ _ (λ f a r g k. search rules)))
    (IsDistinct-IsPermutation same_row_kind (λ row other. same_kind_flips row.kind other.kind) before after
    c.sort_unstable_by.ensures.permutation c.requires)
