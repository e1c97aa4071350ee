-- Facts have at most one report `retained`.
use Rattle.std.proofs.Common.{◌≡◌, ◌∙◌, ℕ, List, sym, ap, subst}
use Rattle.std.specs.List.{flat_map}
use Rattle.hprof_values.specs.declared.ids.IdSize.{IdSize}
use Rattle.hprof_items.specs.FactValue.{FactValue}
use Rattle.hprof_rows.specs.Conflict.{IsConsistent}
use Rattle.hprof_histogram.proofs.Members.{Contains-from_in, IsIn, in_from_Contains, one_sorted}
use Rattle.hprof_retained.specs.Retained.{AreBytesOver, IsSumOver}
use Rattle.hprof_retained.proofs.OneSums.{one_sum}
use Rattle.hprof_by_label.specs.LabelRows.{AreRows, IsHeldWith, IsKeptBy, IsRow, RowValue}
use Rattle.hprof_by_label.specs.RetainedText.{IsRetainedText, row_line}
use Rattle.hprof_by_label.proofs.Joined.{one_bytes}
use Rattle.hprof_by_label.proofs.RowOrder.{row_cmp_total}

module _ (ids : IdSize) (facts : List FactValue) (agree : IsConsistent facts) where
  -- a label has one row
  one_row : (row other : RowValue) → row.label ≡ other.label → IsRow ids facts row → IsRow ids facts other → row ≡ other
  one_row row other same is too =
      let own = subst (λ l. IsSumOver ids facts (IsHeldWith ids facts l) (record { bytes = row.bytes; objects = row.count })) same is.own in
      let kept = subst (λ l. AreBytesOver ids facts (IsKeptBy ids facts l) row.retained) same is.retained in
      let sums = one_sum ids facts agree (IsHeldWith ids facts other.label) (record { bytes = row.bytes; objects = row.count })
      (record { bytes = other.bytes; objects = other.count }) own too.own in
      let retained = one_bytes ids facts agree (IsKeptBy ids facts other.label) row.retained other.retained kept too.retained in
      λ i. record { label = same i; retained = retained i; bytes = (sums i).bytes; count = (sums i).objects }

  -- the rows of the one are rows of the other
  rows_among : (rows others : List RowValue) → AreRows ids facts rows → AreRows ids facts others → (row : RowValue) → IsIn row rows
      → IsIn row others
  rows_among rows others are too row has =
      let is = are.right row (Contains-from_in rows row has) in
      let there = too.all row.label is.some.0 is.some.1 in
      let same = one_row row there.0 (sym there.2) is (too.right there.0 there.1) in
      subst (λ r. IsIn r others) (sym same) (in_from_Contains others there.0 there.1)

  one_rows : (rows others : List RowValue) → AreRows ids facts rows → AreRows ids facts others → rows ≡ others
  one_rows rows others are too =
      one_sorted row_cmp_total rows others are.ordered too.ordered (rows_among rows others are too) (rows_among others rows too are)

pub retained_once : (ids : IdSize) (facts : List FactValue) (one other : List ℕ) → IsRetainedText ids facts one
    → IsRetainedText ids facts other → one ≡ other
retained_once ids facts one other is too =
    is.is ∙ ap (flat_map row_line) (one_rows ids facts is.agree is.rows too.rows is.are_rows too.are_rows) ∙ sym too.is
