-- The least of numbers.
use Rattle.std.proofs.Common.{◌≡◌, ℕ, suc, ◌≤◌, min, List, [], ◌∷◌, ◌++◌, refl, subst, inl, inr, arith}
use Rattle.std.specs.List.{AllByRecursion}
use Rattle.std.proofs.lemmas.Bool.{cases_lt}
use Rattle.std.proofs.lemmas.List.Elements.{Contains-append_left, Contains-push}
use Rattle.hprof_heap.specs.State.{IsLeastOf}

-- no numbers have a least one
pub no_least : (least : ℕ) → IsLeastOf [] least → ⊥
no_least least is = let within = is.is_one.1 in omega arith

-- a number alone is the least
pub IsLeastOf-one : (number : ℕ) → IsLeastOf (number ∷ []) number
IsLeastOf-one number = record { is_one = (0, omega arith, refl); is_least = (omega arith, tt) }

-- what is no greater than the least is no greater than any
up_to_least : (numbers : List ℕ) (least other : ℕ) → other ≤ least → AllByRecursion (λ number. least ≤ number) numbers
    → AllByRecursion (λ number. other ≤ number) numbers
up_to_least [] least other le all = tt
up_to_least (number ∷ numbers) least other le all = (omega arith, up_to_least numbers least other le all.1)

-- the same of one more number
up_to_more : (numbers : List ℕ) (least number : ℕ) → least ≤ number → AllByRecursion (λ number. least ≤ number) numbers
    → AllByRecursion (λ number. least ≤ number) (numbers ++ number ∷ [])
up_to_more [] least number le all = (le, tt)
up_to_more (first ∷ numbers) least number le all = (all.0, up_to_more numbers least number le all.1)

-- the least with one more number behind
pub IsLeastOf-push : (numbers : List ℕ) (number least : ℕ) → IsLeastOf numbers least → IsLeastOf (numbers ++ number ∷ []) (min least number)
IsLeastOf-push numbers number least is = elim (cases_lt number least) [
  | inl lt ↦
      let e : number ≡ min least number = omega arith in
      subst (IsLeastOf (numbers ++ number ∷ [])) e
      (record {
        is_one = Contains-push numbers number;
        is_least =
            up_to_more numbers number number (omega arith) (up_to_least numbers least number (omega arith) is.is_least);
      })
  | inr le ↦
      let e : least ≡ min least number = omega arith in
      subst (IsLeastOf (numbers ++ number ∷ [])) e
      (record {
        is_one = Contains-append_left numbers (number ∷ []) least is.is_one;
        is_least =
            up_to_more numbers least number le is.is_least;
      })
]

-- the least with one more number in front
pub IsLeastOf-cons : (number : ℕ) (numbers : List ℕ) (least : ℕ) → IsLeastOf numbers least → IsLeastOf (number ∷ numbers) (min number least)
IsLeastOf-cons number numbers least is = elim (cases_lt number least) [
  | inl lt ↦
      let e : number ≡ min number least = omega arith in
      subst (IsLeastOf (number ∷ numbers)) e (record {
        is_one = (0, omega arith, refl);
        is_least =
            (omega arith, up_to_least numbers least number (omega arith) is.is_least);
      })
  | inr le ↦
      let e : least ≡ min number least = omega arith in
      let within = is.is_one.1 in
      subst (IsLeastOf (number ∷ numbers)) e (record { is_one = (suc is.is_one.0, omega arith, is.is_one.2); is_least = (le, is.is_least) })
]
