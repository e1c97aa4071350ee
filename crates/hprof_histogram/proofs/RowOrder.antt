-- The order of rows.
use Rattle.std.proofs.Common.{◌≡◌, ℕ, ◌+◌, ◌<◌, Bool, true, false, List, [], ◌∷◌, get_or, refl, sym, ap, ◌∙◌, arith, eq-eqb, ◌==◌}
use Rattle.std.specs.Cmp.{IsTotalOrder}
use Rattle.std.specs.List.{IsDistinct}
use Rattle.std.specs.List.Sorted.{IsSortedBy, IsStrictlySortedBy}
use Rattle.std.specs.Ordering.{nat_cmp, ordering_then, ordering_reverse, is_lt, on, then_cmp}
use Rattle.std.specs.declared.cmp.Ordering.{Ordering}
use Rattle.std.specs.declared.cmp.Ordering.TheVariants.{Less, Equal, Greater}
use Rattle.std.proofs.lemmas.Bool.{both_ways}
use Rattle.std.proofs.lemmas.Cmp.{nat_cmp_total, nat_eq_equiv, by_ranked, ranked, on_total, then_total, back_total}
use Rattle.std.proofs.lemmas.Map.Keys.{sorted_from_all_adjacent, apart_from_distinct}
use Rattle.hprof_values.specs.Basic.{code_of_basic}
use Rattle.hprof_histogram.specs.declared.row.Kind.{Kind}
use Rattle.hprof_histogram.specs.declared.row.Kind.TheVariants.{Class, Prim}
use Rattle.hprof_histogram.specs.declared.row.Row.{Row}
use Rattle.hprof_histogram.specs.Histogram.{kind_cmp, row_cmp, same_kind}

-- 0 for classes, and 1 for types
abbrev side_of : Kind → ℕ
side_of (Class class) = 0
side_of (Prim elem) = 1

-- the number that orders kinds of one side
abbrev number_of : Kind → ℕ
number_of (Class class) = class
number_of (Prim elem) = code_of_basic elem

-- by the side, and then by the number
abbrev by_number : Kind → Kind → Ordering
by_number = then_cmp (on side_of nat_cmp) (on number_of nat_cmp)

by_number_is : (kind other : Kind) → by_number kind other ≡ kind_cmp kind other
by_number_is (Class class) (Class other) = refl
by_number_is (Class class) (Prim elem) = refl
by_number_is (Prim elem) (Class class) = refl
by_number_is (Prim elem) (Prim other) = refl

by_number_total : IsTotalOrder by_number
by_number_total = then_total (on_total side_of nat_cmp_total) (on_total number_of nat_cmp_total)

pub kind_cmp_total : IsTotalOrder kind_cmp
kind_cmp_total = record {
  antisymm = λ x y. rw (← by_number_is x y, ← by_number_is y x) (by_number_total.antisymm x y);
  trans = λ x y z xy yz. sym (by_number_is x z) ∙ by_number_total.trans x y z (by_number_is x y ∙ xy) (by_number_is y z ∙ yz);
  congr = λ x y z e. sym (by_number_is x z) ∙ by_number_total.congr x y z (by_number_is x y ∙ e) ∙ by_number_is y z;
}

pub row_cmp_total : IsTotalOrder row_cmp
row_cmp_total =
    then_total (back_total (on_total (λ (row : Row). row.bytes) nat_cmp_total))
    (then_total (back_total (on_total (λ (row : Row). row.count) nat_cmp_total)) (on_total (λ (row : Row). row.kind) kind_cmp_total))

-- numbers of which neither is before the other are equal
pub tied_numbers : (n m : ℕ) → nat_cmp n m ≡ Equal → (n == m) ≡ true
tied_numbers n m e =
    by_ranked (n < m) (n ≡ m) (m < n) (nat_cmp n m) (ranked n m (nat_cmp n m) refl) (λ less lt. cc) (λ same is. eq-eqb n m is)
    (λ more gt. cc)

pub tied_kinds : (kind other : Kind) → kind_cmp kind other ≡ Equal → same_kind kind other ≡ true
tied_kinds (Class class) (Class other) e = tied_numbers class other e
tied_kinds (Class class) (Prim elem) e = cc
tied_kinds (Prim elem) (Class class) e = cc
tied_kinds (Prim elem) (Prim other) e = tied_numbers (code_of_basic elem) (code_of_basic other) e

pub then_tied : (first second : Ordering) → ordering_then first second ≡ Equal → second ≡ Equal
then_tied Less second e = cc
then_tied Equal second e = e
then_tied Greater second e = cc

-- rows of which neither is before the other are of one kind
tied_rows : (row other : Row) → row_cmp row other ≡ Equal → same_kind row.kind other.kind ≡ true
tied_rows row other e =
    tied_kinds row.kind other.kind
    (then_tied (nat_cmp other.count row.count) (kind_cmp row.kind other.kind) (then_tied (nat_cmp other.bytes row.bytes) _ e))

pub same_kind_flips : (kind other : Kind) → same_kind kind other ≡ same_kind other kind
same_kind_flips (Class class) (Class other) = nat_eq_equiv.symm class other
same_kind_flips (Class class) (Prim elem) = refl
same_kind_flips (Prim elem) (Class class) = refl
same_kind_flips (Prim elem) (Prim other) = nat_eq_equiv.symm (code_of_basic elem) (code_of_basic other)

-- a row is before another one that is not before it and is of another kind
rises : (row other : Row) → is_lt (row_cmp other row) ≡ false → same_kind row.kind other.kind ≡ false → row_cmp row other ≡ Less
rises row other not_before apart = by_order (row_cmp row other) refl where
  by_order : (order : Ordering) → row_cmp row other ≡ order → order ≡ Less
  by_order Less e = refl
  by_order Equal e = absurd (both_ways _ apart (tied_rows row other e))
  by_order Greater e =
      let back : row_cmp other row ≡ Less = row_cmp_total.antisymm other row ∙ ap ordering_reverse e in
      absurd (both_ways _ not_before (ap is_lt back))

-- whether two rows are of one kind
abbrev pub same_row_kind : Row → Row → Bool
same_row_kind row other = same_kind row.kind other.kind

-- rows that do not fall and are of different kinds rise
pub rows_ascend : (rows : List Row) → IsSortedBy (λ row other. is_lt (row_cmp row other)) rows → IsDistinct same_row_kind rows
    → IsStrictlySortedBy row_cmp rows
unfolding IsStrictlySortedBy
rows_ascend [] sorted apart = tt
rows_ascend (first ∷ rows) sorted apart =
    sorted_from_all_adjacent row_cmp_total (first ∷ rows) first (λ k lt.
    rises (get_or (first ∷ rows) k first) (get_or (first ∷ rows) (k + 1) first) (sorted k first (omega arith) lt)
    (apart_from_distinct same_row_kind (first ∷ rows) k (k + 1) first apart (omega arith) lt))
