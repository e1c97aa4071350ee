-- Where a test cuts a list in two.
use Rattle.std.specs.List.{All, AllPairs, filter}
use Rattle.std.specs.List.Sorted.{IsPartitionPoint, IsStrictlySortedBy}
use Rattle.std.specs.declared.cmp.Ordering.{Ordering}
use Rattle.std.specs.declared.cmp.Ordering.TheVariants.{Less}
use Rattle.std.proofs.Common.{◌≡◌, ℕ, zero, suc, ◌≤◌, Bool, true, false, cond, not, List, [], ◌∷◌, length, take, drop, get_or}
use Rattle.std.proofs.Common.{refl, sym, ap, ◌∙◌, arith}
use Rattle.std.proofs.lemmas.List.Elements.{All-from_recursion}
use Rattle.std.proofs.lemmas.List.Kept.{AllPairs-cons}
use Rattle.std.proofs.lemmas.Map.Keys.{sorted_head, sorted_tail}

-- of two in a strictly sorted list the earlier is below the later
pub pairs_rise : {X : Type 0} (c : X → X → Ordering) (xs : List X) → IsStrictlySortedBy c xs → AllPairs (λ x y. c x y ≡ Less) xs
pairs_rise c [] up = λ i j d lt within. absurd (omega arith)
pairs_rise c (x ∷ xs) up =
    AllPairs-cons (λ x y. c x y ≡ Less) x xs (All-from_recursion (λ y. c x y ≡ Less) xs (sorted_head c x xs up))
    (pairs_rise c xs (sorted_tail c x xs up))

pub from_not : (b : Bool) → not b ≡ false → b ≡ true
from_not true e = refl
from_not false e = absurd cc

pub from_not_true : (b : Bool) → not b ≡ true → b ≡ false
from_not_true true e = absurd cc
from_not_true false e = refl

module _ {X : Type 0} (test : X → Bool) where
  -- all pass
  pub filter_all : (xs : List X) → All (λ x. test x ≡ true) xs → filter test xs ≡ xs
  filter_all [] all = refl
  filter_all (x ∷ xs) all =
      ap (λ b. cond b (x ∷ filter test xs) (filter test xs)) (all 0 x (omega arith))
      ∙ ap (λ (l : List X). x ∷ l) (filter_all xs (λ k d within. all (suc k) d (omega arith)))

  -- none passes
  pub filter_none : (xs : List X) → All (λ x. test x ≡ false) xs → filter test xs ≡ []
  filter_none [] all = refl
  filter_none (x ∷ xs) all =
      ap (λ b. cond b (x ∷ filter test xs) (filter test xs)) (all 0 x (omega arith))
      ∙ filter_none xs (λ k d within. all (suc k) d (omega arith))

  -- those at the front pass, and those behind do not
  pub front_passes : (xs : List X) (count : ℕ) → count ≤ length xs → IsPartitionPoint (λ x. test x ≡ true) (λ x. test x ≡ false) xs count
      → take count xs ≡ filter test xs
  front_passes [] zero within cut = refl
  front_passes [] (suc count) within cut = absurd (omega arith)
  front_passes (x ∷ xs) zero within cut = sym (filter_none (x ∷ xs) (λ k d inside. cut.1 k d (omega arith) inside))
  front_passes (x ∷ xs) (suc count) within cut =
      ap (λ (l : List X). x ∷ l) (front_passes xs count (omega arith)
      (λ k d low high. cut.0 (suc k) d (omega arith) (omega arith), λ k d low high. cut.1 (suc k) d (omega arith) (omega arith)))
      ∙ sym (ap (λ b. cond b (x ∷ filter test xs) (filter test xs)) (cut.0 0 x (omega arith) (omega arith)))

  -- those at the front do not pass, and those behind do
  pub back_passes : (xs : List X) (count : ℕ) → count ≤ length xs
      → IsPartitionPoint (λ x. not (test x) ≡ true) (λ x. not (test x) ≡ false) xs count → drop count xs ≡ filter test xs
  back_passes [] zero within cut = refl
  back_passes [] (suc count) within cut = absurd (omega arith)
  back_passes (x ∷ xs) zero within cut =
      sym (filter_all (x ∷ xs) (λ k d inside. from_not (test (get_or (x ∷ xs) k d)) (cut.1 k d (omega arith) inside)))
  back_passes (x ∷ xs) (suc count) within cut =
      back_passes xs count (omega arith)
      (λ k d low high. cut.0 (suc k) d (omega arith) (omega arith), λ k d low high. cut.1 (suc k) d (omega arith) (omega arith))
      ∙ sym (ap (λ b. cond b (x ∷ filter test xs) (filter test xs)) (from_not_true (test x) (cut.0 0 x (omega arith) (omega arith))))

-- those that pass the first test and then the second, which none passes that does not pass the first
pub filter_twice : {X : Type 0} (first second : X → Bool) → ((x : X) → second x ≡ true → first x ≡ true) → (xs : List X)
    → filter second (filter first xs) ≡ filter second xs
filter_twice first second under [] = refl
filter_twice {X} first second under (x ∷ xs) = by_test (filter_twice first second under xs) (first x) (second x) refl refl where
  by_test : filter second (filter first xs) ≡ filter second xs → (one other : Bool) → first x ≡ one → second x ≡ other
      → filter second (cond one (x ∷ filter first xs) (filter first xs)) ≡ cond other (x ∷ filter second xs) (filter second xs)
  by_test rest true true f s =
      ap (λ b. cond b (x ∷ filter second (filter first xs)) (filter second (filter first xs))) s ∙ ap (λ (l : List X). x ∷ l) rest
  by_test rest true false f s =
      ap (λ b. cond b (x ∷ filter second (filter first xs)) (filter second (filter first xs))) s ∙ rest
  by_test rest false true f s = let passes : first x ≡ true = under x s in let clash : true ≡ false = sym passes ∙ f in absurd cc
  by_test rest false false f s = rest
