-- What is gathered from a list, in order.
use Rattle.std.proofs.Common.{◌≡◌, ◌⊎◌, List, [], ◌∷◌, ◌++◌, refl, sym, subst, inl, inr}
use Rattle.std.specs.Cmp.{IsTotalOrder}
use Rattle.std.specs.List.{flat_map}
use Rattle.std.specs.List.Sorted.{IsStrictlySortedBy}
use Rattle.std.specs.declared.cmp.Ordering.{Ordering}
use Rattle.std.specs.declared.cmp.Ordering.TheVariants.{Equal}
use Rattle.hprof_histogram.proofs.Members.{IsIn, in_back, in_front}
use Rattle.hprof_histogram.proofs.Joining.{join_one}

module _ {X : Type 0} (R : X → X → Ordering) where
  -- these, in order and each once
  pub record InOrder (xs : List X) : Type 0 where
    pub all : List X
    pub sorted : IsStrictlySortedBy R all
    pub only : (x : X) → IsIn x all → IsIn x xs
    pub keeps : (x : X) → IsIn x xs → IsIn x all

  pub in_order : IsTotalOrder R → ((x y : X) → R x y ≡ Equal → x ≡ y) → (xs : List X) → InOrder xs
  unfolding IsStrictlySortedBy
  in_order total same [] = record { all = []; sorted = tt; only = λ x has. has; keeps = λ x has. has }
  in_order total same (one ∷ xs) =
      let rest = in_order total same xs in
      let more = join_one R total same one rest.all rest.sorted in
      record {
        all = more.all;
        sorted = more.sorted;
        only = λ x has. elim (more.only x has) [ inl is ↦ inl is | inr later ↦ inr (rest.only x later) ];
        keeps = λ x has. elim has [
          | inl is ↦ subst (λ (y : X). IsIn y more.all) (sym is) more.has
          | inr later ↦ more.keeps x (rest.keeps x later)
        ];
      }

-- ---- what each element gives

-- in the one or in the other
pub in_parts : {Y : Type 0} (xs ys : List Y) (y : Y) → IsIn y (xs ++ ys) → IsIn y xs ⊎ IsIn y ys
in_parts [] ys y has = inr has
in_parts (x ∷ xs) ys y has = elim has [
  | inl is ↦ inl (inl is)
  | inr later ↦ elim (in_parts xs ys y later) [ inl front ↦ inl (inr front) | inr back ↦ inr back ]
]

module _ {X Y : Type 0} (f : X → List Y) where
  -- it is of one of them
  pub record IsOf (xs : List X) (y : Y) : Type 0 where
    pub from : X
    pub there : IsIn from xs
    pub has : IsIn y (f from)

  pub of_one : (xs : List X) (y : Y) → IsIn y (flat_map f xs) → IsOf xs y
  of_one [] y has = absurd has
  of_one (x ∷ xs) y has = elim (in_parts (f x) (flat_map f xs) y has) [
    | inl here ↦ record { from = x; there = inl refl; has = here }
    | inr later ↦ let it = of_one xs y later in record { from = it.from; there = inr it.there; has = it.has }
  ]

  pub of_each : (xs : List X) (x : X) (y : Y) → IsIn x xs → IsIn y (f x) → IsIn y (flat_map f xs)
  of_each [] x y there has = absurd there
  of_each (first ∷ xs) x y there has = elim there [
    | inl is ↦ in_front (f first) (flat_map f xs) y (subst (λ (z : X). IsIn y (f z)) is has)
    | inr later ↦ in_back (f first) (flat_map f xs) y (of_each xs x y later has)
  ]
