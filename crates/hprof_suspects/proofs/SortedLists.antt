-- Lists that were sorted.
use Rattle.std.proofs.Common.{◌≡◌, ◌+◌, ◌∙◌, Bool, true, false, List, [], ◌∷◌, get_or, map, refl, sym, ap, inl, inr, arith}
use Rattle.std.specs.Cmp.{IsTotalOrder}
use Rattle.std.specs.List.{AllByRecursion, IsDistinct}
use Rattle.std.specs.List.Sorted.{IsSorted, IsStrictlySortedBy}
use Rattle.std.specs.Ordering.{is_lt, ordering_reverse}
use Rattle.std.specs.declared.cmp.Ordering.{Ordering}
use Rattle.std.specs.declared.cmp.Ordering.TheVariants.{Less, Equal, Greater}
use Rattle.std.proofs.lemmas.Bool.{both_ways}
use Rattle.std.proofs.lemmas.Map.Keys.{apart_from_distinct, sorted_from_all_adjacent}
use Rattle.hprof_histogram.proofs.Members.{IsIn}

module _ {A : Type 0} (cmp : A → A → Ordering) (total : IsTotalOrder cmp) (same : A → A → Bool)
    (tied : (one other : A) → cmp one other ≡ Equal → same one other ≡ true) where
  rises : (one other : A) → is_lt (cmp other one) ≡ false → same one other ≡ false → cmp one other ≡ Less
  rises one other not_before apart = by_order (cmp one other) refl where
    by_order : (order : Ordering) → cmp one other ≡ order → order ≡ Less
    by_order Less e = refl
    by_order Equal e = absurd (both_ways _ apart (tied one other e))
    by_order Greater e =
        let back : cmp other one ≡ Less = total.antisymm other one ∙ ap ordering_reverse e in
        absurd (both_ways _ not_before (ap is_lt back))

  -- what does not fall, and of which no two are the same, rises
  pub all_rise : (xs : List A) → IsSorted cmp xs → IsDistinct same xs → IsStrictlySortedBy cmp xs
  unfolding IsStrictlySortedBy
  all_rise [] sorted apart = tt
  all_rise (first ∷ xs) sorted apart =
      sorted_from_all_adjacent total (first ∷ xs) first (λ k lt.
      rises (get_or (first ∷ xs) k first) (get_or (first ∷ xs) (k + 1) first) (sorted k first (omega arith) lt)
      (apart_from_distinct same (first ∷ xs) k (k + 1) first apart (omega arith) lt))

module _ {A B : Type 0} (f : A → B) where
  -- what is among the images of some is the image of one
  pub map_back : (xs : List A) (y : B) → IsIn y (map f xs) → (x : A) × IsIn x xs × (f x ≡ y)
  map_back [] y has = absurd has
  map_back (x ∷ xs) y has = elim has [
    | inl same ↦ (x, inl refl, sym same)
    | inr later ↦ let back = map_back xs y later in (back.0, inr back.1, back.2)
  ]

  module _ (cmp : A → A → Ordering) (other_cmp : B → B → Ordering) where
    images_after : (one : A) (xs : List A) → ((x : A) → IsIn x xs → cmp one x ≡ other_cmp (f one) (f x))
        → AllByRecursion (λ x. cmp one x ≡ Less) xs → AllByRecursion (λ y. other_cmp (f one) y ≡ Less) (map f xs)
    images_after one [] alike after = tt
    images_after one (x ∷ xs) alike after =
        (sym (alike x (inl refl)) ∙ after.0, images_after one xs (λ y on. alike y (inr on)) after.1)

    -- images rise where their order is the same
    pub images_rise : (xs : List A) → ((one x : A) → IsIn one xs → IsIn x xs → cmp one x ≡ other_cmp (f one) (f x))
        → IsStrictlySortedBy cmp xs → IsStrictlySortedBy other_cmp (map f xs)
    unfolding IsStrictlySortedBy
    images_rise [] alike sorted = tt
    images_rise (x ∷ xs) alike sorted = (
      images_after x xs (λ y on. alike x y (inl refl) (inr on)) sorted.0,
      images_rise xs (λ one y on on_too. alike one y (inr on) (inr on_too)) sorted.1,
    )
