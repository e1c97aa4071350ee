-- The order of changes.
use Rattle.std.proofs.Common.{◌≡◌, ℕ, ◌+◌, ◌<◌, Bool, true, false, List, [], ◌∷◌, get_or, refl, sym, ap, ◌∙◌, arith}
use Rattle.std.specs.Prelude.{bytes_eq}
use Rattle.std.specs.Cmp.{IsTotalOrder}
use Rattle.std.specs.Cmp.Lexicographic.{slice_cmp}
use Rattle.std.specs.List.{IsDistinct}
use Rattle.std.specs.List.Sorted.{IsSortedBy, IsStrictlySortedBy}
use Rattle.std.specs.Ordering.{nat_cmp, ordering_reverse, is_eq, is_lt}
use Rattle.std.specs.declared.cmp.Ordering.{Ordering}
use Rattle.std.specs.declared.cmp.Ordering.TheVariants.{Less, Equal, Greater}
use Rattle.std.proofs.lemmas.Bool.{both_ways}
use Rattle.std.proofs.lemmas.Cmp.{back_total, nat_cmp_total, nat_list_cmp_total, on_total, ranked, then_total}
use Rattle.std.proofs.lemmas.Map.Keys.{apart_from_distinct, sorted_from_all_adjacent}
use Rattle.std.proofs.lemmas.Map.Text.{is_eq-slice_cmp}
use Rattle.std.proofs.lemmas.Slice.Eq.{bytes_eq-Decides}
use Rattle.hprof_histogram.proofs.RowOrder.{then_tied}
use Rattle.hprof_diff.specs.Difference.{ChangeValue, StepValue, change_cmp, step_cmp}

-- ---- numbers

less : (n m : ℕ) → n < m → nat_cmp n m ≡ Less
less n m lt = by_order (nat_cmp n m) refl where
  by_order : (order : Ordering) → nat_cmp n m ≡ order → order ≡ Less
  by_order Less e = refl
  by_order Equal e = let is : n ≡ m = ranked n m Equal (sym e) in absurd (omega (arith, is, lt))
  by_order Greater e = let gt : m < n = ranked n m Greater (sym e) in absurd (omega (arith, gt, lt))

equal : (n m : ℕ) → n ≡ m → nat_cmp n m ≡ Equal
equal n m is = by_order (nat_cmp n m) refl where
  by_order : (order : Ordering) → nat_cmp n m ≡ order → order ≡ Equal
  by_order Less e = let lt : n < m = ranked n m Less (sym e) in absurd (omega (arith, is, lt))
  by_order Equal e = refl
  by_order Greater e = let gt : m < n = ranked n m Greater (sym e) in absurd (omega (arith, gt, is))

greater : (n m : ℕ) → m < n → nat_cmp n m ≡ Greater
greater n m gt = nat_cmp_total.antisymm n m ∙ ap ordering_reverse (less m n gt)

is_less : (n m : ℕ) → nat_cmp n m ≡ Less → n < m
is_less n m e = ranked n m Less (sym e)

is_equal : (n m : ℕ) → nat_cmp n m ≡ Equal → n ≡ m
is_equal n m e = ranked n m Equal (sym e)

is_greater : (n m : ℕ) → nat_cmp n m ≡ Greater → m < n
is_greater n m e = ranked n m Greater (sym e)

-- ---- steps

step_trans : (x y z : StepValue) → step_cmp x y ≡ Less → step_cmp y z ≡ Less → step_cmp x z ≡ Less
step_trans x y z before after =
    let xy = is_less (x.new + y.old) (y.new + x.old) before in
    let yz = is_less (y.new + z.old) (z.new + y.old) after in
    less (x.new + z.old) (z.new + x.old) (omega arith)

step_congr : (x y z : StepValue) → step_cmp x y ≡ Equal → step_cmp x z ≡ step_cmp y z
step_congr x y z e = by_order (step_cmp y z) refl where
  xy : x.new + y.old ≡ y.new + x.old
  xy = is_equal (x.new + y.old) (y.new + x.old) e

  by_order : (order : Ordering) → step_cmp y z ≡ order → step_cmp x z ≡ order
  by_order Less yz = let lt = is_less (y.new + z.old) (z.new + y.old) yz in less (x.new + z.old) (z.new + x.old) (omega (arith, xy, lt))
  by_order Equal yz = let is = is_equal (y.new + z.old) (z.new + y.old) yz in equal (x.new + z.old) (z.new + x.old) (omega (arith, xy, is))
  by_order Greater yz = let gt =
      is_greater (y.new + z.old) (z.new + y.old) yz in greater (x.new + z.old) (z.new + x.old) (omega (arith, xy, gt))

pub step_cmp_total : IsTotalOrder step_cmp
step_cmp_total = record {
  antisymm = λ x y. nat_cmp_total.antisymm (x.new + y.old) (y.new + x.old);
  trans = step_trans;
  congr = step_congr;
}

-- ---- changes

pub change_cmp_total : IsTotalOrder change_cmp
change_cmp_total =
    then_total (back_total (on_total (λ (change : ChangeValue). change.bytes) step_cmp_total))
    (then_total (back_total (on_total (λ (change : ChangeValue). change.count) step_cmp_total))
    (on_total (λ (change : ChangeValue). change.label) nat_list_cmp_total))

-- whether two changes are of one label
abbrev pub same_label : ChangeValue → ChangeValue → Bool
same_label change other = bytes_eq change.label other.label

pub same_label_flips : (change other : ChangeValue) → same_label change other ≡ same_label other change
same_label_flips change other = by_test (same_label change other) (same_label other change) refl refl where
  by_test : (b d : Bool) → same_label change other ≡ b → same_label other change ≡ d → b ≡ d
  by_test true true e f = refl
  by_test false false e f = refl
  by_test true false e f =
      absurd (both_ways _ f ((bytes_eq-Decides other.label change.label).1 (sym ((bytes_eq-Decides change.label other.label).0 e))))
  by_test false true e f =
      absurd (both_ways _ e ((bytes_eq-Decides change.label other.label).1 (sym ((bytes_eq-Decides other.label change.label).0 f))))

-- changes of which neither is before the other are of one label
pub tied_labels : (change other : ChangeValue) → change_cmp change other ≡ Equal → same_label change other ≡ true
tied_labels change other e =
    let labels : slice_cmp nat_cmp change.label other.label ≡ Equal =
    then_tied (step_cmp other.count change.count) (slice_cmp nat_cmp change.label other.label)
    (then_tied (step_cmp other.bytes change.bytes) _ e) in
    sym (is_eq-slice_cmp change.label other.label) ∙ ap is_eq labels

-- a change is before another one that is not before it and is of another label
rises : (change other : ChangeValue) → is_lt (change_cmp other change) ≡ false → same_label change other ≡ false
    → change_cmp change other ≡ Less
rises change other not_before apart = by_order (change_cmp change other) refl where
  by_order : (order : Ordering) → change_cmp change other ≡ order → order ≡ Less
  by_order Less e = refl
  by_order Equal e = absurd (both_ways _ apart (tied_labels change other e))
  by_order Greater e =
      let back : change_cmp other change ≡ Less = change_cmp_total.antisymm other change ∙ ap ordering_reverse e in
      absurd (both_ways _ not_before (ap is_lt back))

-- changes that do not fall and are of different labels rise
pub changes_ascend : (changes : List ChangeValue) → IsSortedBy (λ change other. is_lt (change_cmp change other)) changes
    → IsDistinct same_label changes → IsStrictlySortedBy change_cmp changes
unfolding IsStrictlySortedBy
changes_ascend [] sorted apart = tt
changes_ascend (first ∷ changes) sorted apart =
    sorted_from_all_adjacent change_cmp_total (first ∷ changes) first (λ k lt.
    rises (get_or (first ∷ changes) k first) (get_or (first ∷ changes) (k + 1) first) (sorted k first (omega arith) lt)
    (apart_from_distinct same_label (first ∷ changes) k (k + 1) first apart (omega arith) lt))
