-- The order of sums.
use Rattle.std.proofs.Common.{◌≡◌, ◌+◌, Bool, true, false, List, [], ◌∷◌, get_or, refl, sym, ap, ◌∙◌, arith}
use Rattle.std.specs.Prelude.{bytes_eq}
use Rattle.std.specs.Cmp.{IsTotalOrder}
use Rattle.std.specs.Cmp.Lexicographic.{slice_cmp}
use Rattle.std.specs.List.{IsDistinct}
use Rattle.std.specs.List.Sorted.{IsSortedBy, IsStrictlySortedBy}
use Rattle.std.specs.Ordering.{nat_cmp, ordering_reverse, ordering_then, is_eq, is_lt}
use Rattle.std.specs.declared.cmp.Ordering.{Ordering}
use Rattle.std.specs.declared.cmp.Ordering.TheVariants.{Less, Equal, Greater}
use Rattle.std.proofs.lemmas.Bool.{both_ways}
use Rattle.std.proofs.lemmas.Cmp.{back_total, nat_cmp_total, nat_list_cmp_total, on_total, ranked, then_total}
use Rattle.std.proofs.lemmas.Map.Keys.{apart_from_distinct, sorted_from_all_adjacent}
use Rattle.std.proofs.lemmas.Map.Text.{is_eq-slice_cmp}
use Rattle.std.proofs.lemmas.Slice.Eq.{bytes_eq-Decides}
use Rattle.hprof_holders.specs.Sums.{SumValue, sum_cmp}

pub sum_cmp_total : IsTotalOrder sum_cmp
sum_cmp_total =
    then_total (back_total (on_total (λ (sum : SumValue). sum.count) nat_cmp_total))
    (on_total (λ (sum : SumValue). sum.text) nat_list_cmp_total)

-- ---- sums of one text

abbrev pub same_text : SumValue → SumValue → Bool
same_text sum other = bytes_eq sum.text other.text

pub same_text_flips : (sum other : SumValue) → same_text sum other ≡ same_text other sum
same_text_flips sum other = by_test (same_text sum other) (same_text other sum) refl refl where
  by_test : (b d : Bool) → same_text sum other ≡ b → same_text other sum ≡ d → b ≡ d
  by_test true true e f = refl
  by_test false false e f = refl
  by_test true false e f =
      absurd (both_ways _ f ((bytes_eq-Decides other.text sum.text).1 (sym ((bytes_eq-Decides sum.text other.text).0 e))))
  by_test false true e f =
      absurd (both_ways _ e ((bytes_eq-Decides sum.text other.text).1 (sym ((bytes_eq-Decides other.text sum.text).0 f))))

-- ---- sums of which neither is before the other

both_tied : (first second : Ordering) → ordering_then first second ≡ Equal → (first ≡ Equal) × (second ≡ Equal)
both_tied Less second e = absurd cc
both_tied Equal second e = (refl, e)
both_tied Greater second e = absurd cc

tied_texts : (sum other : SumValue) → sum_cmp sum other ≡ Equal → same_text sum other ≡ true
tied_texts sum other e =
    let tied = both_tied (nat_cmp other.count sum.count) (slice_cmp nat_cmp sum.text other.text) e in
    sym (is_eq-slice_cmp sum.text other.text) ∙ ap is_eq tied.1

-- are one
pub tied_sums : (sum other : SumValue) → sum_cmp sum other ≡ Equal → sum ≡ other
tied_sums sum other e =
    let tied = both_tied (nat_cmp other.count sum.count) (slice_cmp nat_cmp sum.text other.text) e in
    let counts : other.count ≡ sum.count = ranked other.count sum.count Equal (sym tied.0) in
    let texts : sum.text ≡ other.text = (bytes_eq-Decides sum.text other.text).0 (tied_texts sum other e) in
    λ i. record { text = texts i; count = sym counts i }

-- ---- sums in order

-- a sum is before another one that is not before it and is of another text
rises : (sum other : SumValue) → is_lt (sum_cmp other sum) ≡ false → same_text sum other ≡ false → sum_cmp sum other ≡ Less
rises sum other not_before apart = by_order (sum_cmp sum other) refl where
  by_order : (order : Ordering) → sum_cmp sum other ≡ order → order ≡ Less
  by_order Less e = refl
  by_order Equal e = absurd (both_ways _ apart (tied_texts sum other e))
  by_order Greater e =
      let back : sum_cmp other sum ≡ Less = sum_cmp_total.antisymm other sum ∙ ap ordering_reverse e in
      absurd (both_ways _ not_before (ap is_lt back))

-- sums that do not fall and are of different texts rise
pub sums_ascend : (sums : List SumValue) → IsSortedBy (λ sum other. is_lt (sum_cmp sum other)) sums → IsDistinct same_text sums
    → IsStrictlySortedBy sum_cmp sums
unfolding IsStrictlySortedBy
sums_ascend [] sorted apart = tt
sums_ascend (first ∷ sums) sorted apart =
    sorted_from_all_adjacent sum_cmp_total (first ∷ sums) first (λ k lt.
    rises (get_or (first ∷ sums) k first) (get_or (first ∷ sums) (k + 1) first) (sorted k first (omega arith) lt)
    (apart_from_distinct same_text (first ∷ sums) k (k + 1) first apart (omega arith) lt))
