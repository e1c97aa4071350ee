-- Members of lists: lists that are strictly sorted and have the same ones are equal.
use Rattle.std.proofs.Common.{◌≡◌, ◌⊎◌, ℕ, zero, suc, ◌<◌, Bool, true, false, cond, Some, List, [], ◌∷◌, ◌++◌, map, length, get_or, refl}
use Rattle.std.proofs.Common.{sym, ap, subst, ◌∙◌, inl, inr, arith}
use Rattle.std.specs.Cmp.{IsTotalOrder}
use Rattle.std.specs.List.{AllByRecursion, Contains, filter, slice_get}
use Rattle.std.specs.List.Sorted.{IsStrictlySortedBy}
use Rattle.std.specs.Ordering.{ordering_reverse}
use Rattle.std.specs.declared.cmp.Ordering.{Ordering}
use Rattle.std.specs.declared.cmp.Ordering.TheVariants.{Less, Equal, Greater}
use Rattle.std.proofs.lemmas.Bool.{both_ways}
use Rattle.std.proofs.lemmas.Cmp.{tied_itself}
use Rattle.std.proofs.lemmas.List.Elements.{Contains-append_left, Contains-append_right}

module _ {X : Type 0} where
  -- x is one of these
  abbrev pub IsIn : X → List X → Type 0
  IsIn x [] = ⊥
  IsIn x (y ∷ ys) = (x ≡ y) ⊎ IsIn x ys

  pub in_from_Contains : (xs : List X) (x : X) → Contains xs x → IsIn x xs
  in_from_Contains xs x has = at_place xs x has.0 has.1 has.2 where
    at_place : (xs : List X) (x : X) (place : ℕ) → place < length xs → get_or xs place x ≡ x → IsIn x xs
    at_place [] x place lt e = absurd (omega arith)
    at_place (y ∷ ys) x zero lt e = inl (sym e)
    at_place (y ∷ ys) x (suc place) lt e = inr (at_place ys x place (omega arith) e)

  pub Contains-from_in : (xs : List X) (x : X) → IsIn x xs → Contains xs x
  Contains-from_in [] x has = absurd has
  Contains-from_in (y ∷ ys) x has = elim has [
    | inl e ↦ (0, omega arith, sym e)
    | inr later ↦ let at = Contains-from_in ys x later in (suc at.0, omega (arith, at.1), at.2)
  ]

  -- what holds of all holds of each
  pub all_in : (P : X → Type 0) (xs : List X) (x : X) → AllByRecursion P xs → IsIn x xs → P x
  all_in P [] x all has = absurd has
  all_in P (y ∷ ys) x all has = elim has [ inl e ↦ subst P (sym e) all.0 | inr later ↦ all_in P ys x all.1 later ]

  pub in_from_slice_get : (xs : List X) (place : ℕ) (x : X) → slice_get xs place ≡ Some x → IsIn x xs
  in_from_slice_get [] place x e = absurd cc
  in_from_slice_get (y ∷ ys) zero x e = inl cc
  in_from_slice_get (y ∷ ys) (suc place) x e = inr (in_from_slice_get ys place x e)

  pub in_front : (xs ys : List X) (x : X) → IsIn x xs → IsIn x (xs ++ ys)
  in_front xs ys x has = in_from_Contains (xs ++ ys) x (Contains-append_left xs ys x (Contains-from_in xs x has))

  pub in_back : (xs ys : List X) (x : X) → IsIn x ys → IsIn x (xs ++ ys)
  in_back xs ys x has = in_from_Contains (xs ++ ys) x (Contains-append_right xs ys x (Contains-from_in ys x has))

  -- a member that passes is a member of those that pass
  pub in_filter : (p : X → Bool) (xs : List X) (x : X) → p x ≡ true → IsIn x xs → IsIn x (filter p xs)
  in_filter p [] x passes has = absurd has
  in_filter p (y ∷ ys) x passes has = by_test (in_filter p ys x passes) (p y) refl where
    by_test : (IsIn x ys → IsIn x (filter p ys)) → (b : Bool) → p y ≡ b → IsIn x (cond b (y ∷ filter p ys) (filter p ys))
    by_test later true e = elim has [ inl is ↦ inl is | inr rest ↦ inr (later rest) ]
    by_test later false e = elim has [ inl is ↦ absurd (both_ways (p y) e (ap p (sym is) ∙ passes)) | inr rest ↦ later rest ]

  module _ {R : X → X → Ordering} (total : IsTotalOrder R) where
    -- nothing is before itself
    not_before_itself : (x y : X) → x ≡ y → R y x ≡ Less → ⊥
    not_before_itself x y e before = let tied : R y x ≡ Equal = ap (R y) e ∙ tied_itself total y in cc

    not_both_ways : (x y : X) → R x y ≡ Less → R y x ≡ Less → ⊥
    not_both_ways x y before after = let back : R x y ≡ Greater = total.antisymm x y ∙ ap ordering_reverse after in cc

    -- the first of two sorted lists with the same members is the same
    same_first : (x y : X) (xs ys : List X) → AllByRecursion (λ z. R x z ≡ Less) xs → AllByRecursion (λ z. R y z ≡ Less) ys
        → IsIn x (y ∷ ys) → IsIn y (x ∷ xs) → x ≡ y
    same_first x y xs ys below below_too has has_too = elim has [
      | inl e ↦ e
      | inr later ↦ elim has_too [
        | inl e ↦ sym e
        | inr later_too ↦ absurd (not_both_ways x y (all_in _ xs y below later_too) (all_in _ ys x below_too later))
      ]
    ]

    -- a member of the rest of the one is a member of the rest of the other
    in_rest : (x y : X) (xs ys : List X) → AllByRecursion (λ z. R x z ≡ Less) xs → x ≡ y
        → ((z : X) → IsIn z (x ∷ xs) → IsIn z (y ∷ ys)) → (z : X) → IsIn z xs → IsIn z ys
    in_rest x y xs ys below e all z has = elim (all z (inr has)) [
      | inl is ↦ absurd (not_before_itself z x (is ∙ sym e) (all_in _ xs z below has))
      | inr later ↦ later
    ]

    -- two strictly sorted lists with the same members are one
    pub one_sorted : (xs ys : List X) → IsStrictlySortedBy R xs → IsStrictlySortedBy R ys
        → ((z : X) → IsIn z xs → IsIn z ys) → ((z : X) → IsIn z ys → IsIn z xs) → xs ≡ ys
    unfolding IsStrictlySortedBy
    one_sorted [] [] sorted sorted_too all all_too = refl
    one_sorted [] (y ∷ ys) sorted sorted_too all all_too = absurd (all_too y (inl refl))
    one_sorted (x ∷ xs) [] sorted sorted_too all all_too = absurd (all x (inl refl))
    one_sorted (x ∷ xs) (y ∷ ys) sorted sorted_too all all_too =
        let first = same_first x y xs ys sorted.0 sorted_too.0 (all x (inl refl)) (all_too y (inl refl)) in
        let rest = one_sorted xs ys sorted.1 sorted_too.1 (in_rest x y xs ys sorted.0 first all)
        (in_rest y x ys xs sorted_too.0 (sym first) all_too) in
        λ i. first i ∷ rest i

pub in_map : {X Y : Type 0} (f : X → Y) (xs : List X) (x : X) → IsIn x xs → IsIn (f x) (map f xs)
in_map f [] x has = absurd has
in_map f (y ∷ ys) x has = elim has [ inl e ↦ inl (ap f e) | inr later ↦ inr (in_map f ys x later) ]
