-- Members of lists, and their places.
use Rattle.std.specs.Prelude.{slice_get, map, Contains}
use Rattle.std.proofs.lemmas.List.Elements.{Contains-append_left, Contains-push}
use Rattle.std.proofs.Common.{◌≡◌, ◌⊎◌, ℕ, zero, suc, ◌<◌, ◌≤◌, List, [], ◌∷◌, ◌++◌, length, drop, Some, get_or}
use Rattle.std.proofs.Common.{refl, ap, subst, inl, inr, arith}
use Rattle.hprof_layouts.proofs.ReferenceSets.{nothing_there}

module _ {X : Type 0} where
  pub drop_at : (xs : List X) (place : ℕ) (x : X) → slice_get xs place ≡ Some x → drop place xs ≡ x ∷ drop (suc place) xs
  drop_at [] place x e = absurd cc
  drop_at (y ∷ xs) zero x e = let same : y ≡ x = cc in ap (λ (z : X). z ∷ xs) same
  drop_at (y ∷ xs) (suc place) x e = drop_at xs place x e

  pub drop_front : (place : ℕ) (xs ys : List X) → place ≤ length xs → drop place (xs ++ ys) ≡ drop place xs ++ ys
  drop_front zero xs ys le = refl
  drop_front (suc place) [] ys le = absurd (omega arith)
  drop_front (suc place) (x ∷ xs) ys le = drop_front place xs ys (omega arith)

  pub there_at : (xs : List X) (place : ℕ) (x : X) → slice_get xs place ≡ Some x → Contains xs x
  there_at [] place x e = absurd cc
  there_at (y ∷ xs) zero x e =
      let same : y ≡ x = cc in
      subst (λ (z : X). Contains (y ∷ xs) z) same (Contains-append_left (y ∷ []) xs y (Contains-push [] y))
  there_at (y ∷ xs) (suc place) x e = let later = there_at xs place x e in (suc later.0, omega (arith, later.1), later.2)

  pub front_or_later : (x : X) (xs : List X) (y : X) → Contains (x ∷ xs) y → (x ≡ y) ⊎ Contains xs y
  front_or_later x xs y has = go has.0 has.1 has.2 where
    go : (place : ℕ) → place < length (x ∷ xs) → get_or (x ∷ xs) place y ≡ y → (x ≡ y) ⊎ Contains xs y
    go zero lt e = inl e
    go (suc place) lt e = inr (place, omega arith, e)

  pub front_there : (x : X) (xs : List X) → Contains (x ∷ xs) x
  front_there x xs = Contains-append_left (x ∷ []) xs x (Contains-push [] x)

  pub later_there : (x : X) (xs : List X) (y : X) → Contains xs y → Contains (x ∷ xs) y
  later_there x xs y has = (suc has.0, omega (arith, has.1), has.2)

-- a member of a list of values is the value of a member
pub from_map : {X Y : Type 0} (f : X → Y) (xs : List X) (y : Y) → Contains (map f xs) y → (x : X) × Contains xs x × (f x ≡ y)
from_map f [] y has = absurd (nothing_there y has)
from_map f (x ∷ xs) y has = elim (front_or_later (f x) (map f xs) y has) [
  | inl e ↦ (x, front_there x xs, e)
  | inr later ↦ let at = from_map f xs y later in (at.0, later_there x xs at.0 at.1, at.2)
]
