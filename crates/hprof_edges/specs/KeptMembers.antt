-- Which members of a list pass a test.
use Rattle.std.specs.Prelude.{◌↔◌, filter}
use Rattle.std.proofs.Common.{◌≡◌, Bool, true, false, cond, List, [], ◌∷◌, Contains, refl, ap, ◌∙◌, inl, inr, arith}
use Rattle.std.proofs.lemmas.List.Elements.{All-contains, Contains-append_cases, Contains-append_left, Contains-append_right}
use Rattle.std.proofs.lemmas.List.Elements.{Contains-push_cases, filter_passes}

-- a list of one
only_one : {X : Type 0} (x y : X) → Contains (x ∷ []) y → x ≡ y
only_one x y there = elim (Contains-push_cases [] x y there) [ inl none ↦ absurd (omega (arith, none.1)) | inr same ↦ same ]

module _ {X : Type 0} (p : X → Bool) where
  before_first : (first : X) (xs : List X) (x : X) → (Contains (filter p xs) x → Contains xs x) → (t : Bool)
      → Contains (cond t (first ∷ filter p xs) (filter p xs)) x → Contains (first ∷ xs) x
  before_first first xs x rest true there = elim (Contains-append_cases (first ∷ []) (filter p xs) x there) [
    | inl here ↦ Contains-append_left (first ∷ []) xs x here
    | inr later ↦ Contains-append_right (first ∷ []) xs x (rest later)
  ]
  before_first first xs x rest false there = Contains-append_right (first ∷ []) xs x (rest there)

  kept_before : (xs : List X) (x : X) → Contains (filter p xs) x → Contains xs x
  kept_before [] x there = there
  kept_before (first ∷ xs) x there = before_first first xs x (kept_before xs x) (p first) there

  kept_first : (first : X) (xs : List X) (x : X) → p x ≡ true → (Contains xs x → Contains (filter p xs) x) → (t : Bool) → p first ≡ t
      → Contains (first ∷ xs) x → Contains (cond t (first ∷ filter p xs) (filter p xs)) x
  kept_first first xs x passes rest true e there = elim (Contains-append_cases (first ∷ []) xs x there) [
    | inl here ↦ Contains-append_left (first ∷ []) (filter p xs) x here
    | inr later ↦ Contains-append_right (first ∷ []) (filter p xs) x (rest later)
  ]
  kept_first first xs x passes rest false e there = elim (Contains-append_cases (first ∷ []) xs x there) [
    | inl here ↦
        let yes : p first ≡ true = ap p (only_one first x here) ∙ passes in
        let no = e in
        absurd cc
    | inr later ↦ rest later
  ]

  kept : (xs : List X) (x : X) → p x ≡ true → Contains xs x → Contains (filter p xs) x
  kept [] x passes there = there
  kept (first ∷ xs) x passes there = kept_first first xs x passes (kept xs x passes) (p first) refl there

  -- the members that pass
  pub kept_are : (xs : List X) (x : X) → Contains (filter p xs) x ↔ (Contains xs x × (p x ≡ true))
  kept_are xs x = (
    λ there. (kept_before xs x there, All-contains (λ y. p y ≡ true) (filter p xs) x (filter_passes p xs) there),
    λ both. kept xs x both.1 both.0,
  )
