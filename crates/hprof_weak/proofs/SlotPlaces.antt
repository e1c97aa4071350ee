-- Places in two lists, one behind the other.
use Rattle.std.specs.Prelude.{slice_get}
use Rattle.std.proofs.Common.{◌≡◌, ◌⊎◌, ℕ, zero, suc, ◌+◌, List, [], ◌∷◌, ◌++◌, length, Some, refl, inl, inr, arith}

module _ {X : Type 0} where
  pub at_front : (xs ys : List X) (place : ℕ) (x : X) → slice_get xs place ≡ Some x → slice_get (xs ++ ys) place ≡ Some x
  at_front [] ys place x e = absurd cc
  at_front (y ∷ xs) ys zero x e = e
  at_front (y ∷ xs) ys (suc place) x e = at_front xs ys place x e

  pub at_seam : (xs : List X) (x : X) (ys : List X) → slice_get (xs ++ x ∷ ys) (length xs) ≡ Some x
  at_seam [] x ys = refl
  at_seam (y ∷ xs) x ys = at_seam xs x ys

  -- it stands in the second
  pub record StandsBehind (xs ys : List X) (place : ℕ) (x : X) : Type 0 where
    pub behind : ℕ
    pub place_is : place ≡ length xs + behind
    pub there : slice_get ys behind ≡ Some x

  pub in_either : (xs ys : List X) (place : ℕ) (x : X) → slice_get (xs ++ ys) place ≡ Some x
      → (slice_get xs place ≡ Some x) ⊎ StandsBehind xs ys place x
  in_either [] ys place x e = inr (record { behind = place; place_is = omega arith; there = e })
  in_either (y ∷ xs) ys zero x e = inl e
  in_either (y ∷ xs) ys (suc place) x e = elim (in_either xs ys place x e) [
    | inl first ↦ inl first
    | inr second ↦
        let is = second.place_is in
        inr (record { behind = second.behind; place_is = omega (arith, is); there = second.there })
  ]
