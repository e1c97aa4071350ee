-- One more in a sorted list.
use Rattle.std.proofs.Common.{◌≡◌, ◌⊎◌, List, [], ◌∷◌, refl, ap, ◌∙◌, inl, inr}
use Rattle.std.specs.Cmp.{IsTotalOrder}
use Rattle.std.specs.List.{AllByRecursion}
use Rattle.std.specs.List.Sorted.{IsStrictlySortedBy}
use Rattle.std.specs.Ordering.{ordering_reverse}
use Rattle.std.specs.declared.cmp.Ordering.{Ordering}
use Rattle.std.specs.declared.cmp.Ordering.TheVariants.{Less, Equal, Greater}
use Rattle.hprof_histogram.proofs.Members.{IsIn, all_in}

-- what holds of each holds of all
pub all_from_in : {X : Type 0} (P : X → Type 0) (xs : List X) → ((x : X) → IsIn x xs → P x) → AllByRecursion P xs
all_from_in P [] each = tt
all_from_in P (x ∷ xs) each = (each x (inl refl), all_from_in P xs (λ y has. each y (inr has)))

module _ {X : Type 0} (R : X → X → Ordering) where
  -- these and one more, in order
  pub record Joined (one : X) (xs : List X) : Type 0 where
    pub all : List X
    pub sorted : IsStrictlySortedBy R all
    pub only : (x : X) → IsIn x all → (x ≡ one) ⊎ IsIn x xs
    pub has : IsIn one all
    pub keeps : (x : X) → IsIn x xs → IsIn x all

  module _ (total : IsTotalOrder R) (same : (x y : X) → R x y ≡ Equal → x ≡ y) where
    -- one that is before the first
    in_front_of : (one x : X) (xs : List X) → R one x ≡ Less → IsStrictlySortedBy R (x ∷ xs) → Joined one (x ∷ xs)
    unfolding IsStrictlySortedBy
    in_front_of one x xs before sorted = record {
      all = one ∷ x ∷ xs;
      sorted = (
        (before, all_from_in (λ y. R one y ≡ Less) xs (λ y has. total.trans one x y before (all_in (λ z. R x z ≡ Less) xs y sorted.0 has))),
        sorted,
      );
      only = λ y has. has;
      has = inl refl;
      keeps = λ y has. inr has;
    }

    -- one that is the first
    there_already : (one x : X) (xs : List X) → one ≡ x → IsStrictlySortedBy R (x ∷ xs) → Joined one (x ∷ xs)
    there_already one x xs e sorted = record {
      all = x ∷ xs;
      sorted = sorted;
      only = λ y has. inr has;
      has = inl e;
      keeps = λ y has. has;
    }

    -- what is joined to the rest is after the first
    still_after : (one x : X) (xs : List X) (rest : Joined one xs) → R x one ≡ Less → AllByRecursion (λ y. R x y ≡ Less) xs
        → AllByRecursion (λ y. R x y ≡ Less) rest.all
    still_after one x xs rest before after =
        all_from_in (λ y. R x y ≡ Less) rest.all (λ y has. elim (rest.only y has) [
          | inl is ↦ ap (R x) is ∙ before
          | inr had ↦ all_in (λ z. R x z ≡ Less) xs y after had
        ])

    -- one that is after the first, joined to the rest
    further_on : (one x : X) (xs : List X) → R x one ≡ Less → AllByRecursion (λ y. R x y ≡ Less) xs → Joined one xs → Joined one (x ∷ xs)
    unfolding IsStrictlySortedBy
    further_on one x xs before after rest = record {
      all = x ∷ rest.all;
      sorted = (still_after one x xs rest before after, rest.sorted);
      only = λ y has. elim has [
        | inl is ↦ inr (inl is)
        | inr later ↦ elim (rest.only y later) [ inl is ↦ inl is | inr had ↦ inr (inr had) ]
      ];
      has = inr rest.has;
      keeps = λ y has. elim has [ inl is ↦ inl is | inr later ↦ inr (rest.keeps y later) ];
    }

    -- one more, wherever it belongs
    pub join_one : (one : X) (xs : List X) → IsStrictlySortedBy R xs → Joined one xs
    unfolding IsStrictlySortedBy
    join_one one [] sorted = record {
      all = one ∷ [];
      sorted = (tt, tt);
      only = λ y has. has;
      has = inl refl;
      keeps = λ y has. absurd has;
    }
    join_one one (x ∷ xs) sorted = by_order (join_one one xs sorted.1) (R one x) refl where
      by_order : Joined one xs → (order : Ordering) → R one x ≡ order → Joined one (x ∷ xs)
      by_order rest Less e = in_front_of one x xs e sorted
      by_order rest Equal e = there_already one x xs (same one x e) sorted
      by_order rest Greater e = further_on one x xs (total.antisymm x one ∙ ap ordering_reverse e) sorted.0 rest
