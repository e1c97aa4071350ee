-- The order of rows.
use Rattle.std.proofs.Common.{◌≡◌, ℕ, ◌+◌, Bool, true, false, List, [], ◌∷◌, get_or, refl, sym, ap, ◌∙◌, arith}
use Rattle.std.specs.Cmp.{IsTotalOrder}
use Rattle.std.specs.Cmp.Lexicographic.{slice_cmp}
use Rattle.std.specs.List.{IsDistinct}
use Rattle.std.specs.List.Sorted.{IsSortedBy, IsStrictlySortedBy}
use Rattle.std.specs.Ordering.{is_eq, is_lt, nat_cmp, ordering_reverse, ordering_then}
use Rattle.std.specs.declared.cmp.Ordering.{Ordering}
use Rattle.std.specs.declared.cmp.Ordering.TheVariants.{Less, Equal, Greater}
use Rattle.std.proofs.lemmas.Bool.{both_ways, eqb-true}
use Rattle.std.proofs.lemmas.Cmp.{back_total, nat_cmp_total, nat_list_cmp_total, on_total, then_total}
use Rattle.std.proofs.lemmas.Map.Keys.{apart_from_distinct, sorted_from_all_adjacent}
use Rattle.std.proofs.lemmas.Map.Text.{is_eq-slice_cmp}
use Rattle.std.proofs.lemmas.Slice.Eq.{bytes_eq-Decides}
use Rattle.hprof_histogram.proofs.RowOrder.{then_tied, tied_numbers}
use Rattle.hprof_by_label.specs.LabelRows.{RowValue, row_cmp}
use Rattle.hprof_by_label.specs.RowValues.{same_label}

pub row_cmp_total : IsTotalOrder row_cmp
row_cmp_total =
    then_total (back_total (on_total (λ (row : RowValue). row.retained) nat_cmp_total))
    (then_total (back_total (on_total (λ (row : RowValue). row.bytes) nat_cmp_total))
    (then_total (back_total (on_total (λ (row : RowValue). row.count) nat_cmp_total))
    (on_total (λ (row : RowValue). row.label) nat_list_cmp_total)))

pub same_label_flips : (row other : RowValue) → same_label row other ≡ same_label other row
same_label_flips row other = by_test (same_label row other) (same_label other row) refl refl where
  by_test : (b d : Bool) → same_label row other ≡ b → same_label other row ≡ d → b ≡ d
  by_test true true e f = refl
  by_test false false e f = refl
  by_test true false e f = absurd (both_ways _ f ((bytes_eq-Decides other.label row.label).1 (sym
      ((bytes_eq-Decides row.label other.label).0 e))))
  by_test false true e f = absurd (both_ways _ e ((bytes_eq-Decides row.label other.label).1 (sym
      ((bytes_eq-Decides other.label row.label).0 f))))

-- ---- rows of which neither is before the other

first_tied : (first second : Ordering) → ordering_then first second ≡ Equal → first ≡ Equal
first_tied Less second e = cc
first_tied Equal second e = refl
first_tied Greater second e = cc

same_number : (n m : ℕ) → nat_cmp n m ≡ Equal → n ≡ m
same_number n m e = eqb-true n m (tied_numbers n m e)

module _ (row other : RowValue) (e : row_cmp row other ≡ Equal) where
  by_count : Ordering
  by_count = ordering_then (nat_cmp other.count row.count) (slice_cmp nat_cmp row.label other.label)

  by_bytes : Ordering
  by_bytes = ordering_then (nat_cmp other.bytes row.bytes)
      (ordering_then (nat_cmp other.count row.count) (slice_cmp nat_cmp row.label other.label))

  bytes_tied : by_bytes ≡ Equal
  unfolding by_bytes
  bytes_tied = then_tied (nat_cmp other.retained row.retained) by_bytes e

  count_tied : by_count ≡ Equal
  unfolding by_bytes by_count
  count_tied = then_tied (nat_cmp other.bytes row.bytes) by_count bytes_tied

  pub tied_labels : same_label row other ≡ true
  unfolding by_count
  tied_labels =
      let labels : slice_cmp nat_cmp row.label other.label ≡ Equal =
      then_tied (nat_cmp other.count row.count) (slice_cmp nat_cmp row.label other.label) count_tied in
      sym (is_eq-slice_cmp row.label other.label) ∙ ap is_eq labels

  pub tied_rows : row ≡ other
  unfolding by_bytes by_count
  tied_rows =
      let retained = sym (same_number other.retained row.retained (first_tied (nat_cmp other.retained row.retained) by_bytes e)) in
      let bytes = sym (same_number other.bytes row.bytes (first_tied (nat_cmp other.bytes row.bytes) by_count bytes_tied)) in
      let count = sym (same_number other.count row.count (first_tied (nat_cmp other.count row.count)
      (slice_cmp nat_cmp row.label other.label) count_tied)) in
      let label = (bytes_eq-Decides row.label other.label).0 tied_labels in
      λ i. record { label = label i; retained = retained i; bytes = bytes i; count = count i }

-- a row is before another one that is not before it and is of another label
rises : (row other : RowValue) → is_lt (row_cmp other row) ≡ false → same_label row other ≡ false → row_cmp row other ≡ Less
rises row other not_before apart = by_order (row_cmp row other) refl where
  by_order : (order : Ordering) → row_cmp row other ≡ order → order ≡ Less
  by_order Less e = refl
  by_order Equal e = absurd (both_ways _ apart (tied_labels row other e))
  by_order Greater e =
      let back : row_cmp other row ≡ Less = row_cmp_total.antisymm other row ∙ ap ordering_reverse e in
      absurd (both_ways _ not_before (ap is_lt back))

-- rows that do not fall and are of different labels rise
pub rows_ascend : (rows : List RowValue) → IsSortedBy (λ row other. is_lt (row_cmp row other)) rows → IsDistinct same_label rows
    → IsStrictlySortedBy row_cmp rows
unfolding IsStrictlySortedBy
rows_ascend [] sorted apart = tt
rows_ascend (first ∷ rows) sorted apart =
    sorted_from_all_adjacent row_cmp_total (first ∷ rows) first (λ k lt.
    rises (get_or (first ∷ rows) k first) (get_or (first ∷ rows) (k + 1) first) (sorted k first (omega arith) lt)
    (apart_from_distinct same_label (first ∷ rows) k (k + 1) first apart (omega arith) lt))
