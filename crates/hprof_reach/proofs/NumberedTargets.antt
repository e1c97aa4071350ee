-- Nodes whose numbers stand in a list are put one after the other.
use Rattle.std.specs.Prelude.{◌↔◌, Contains, slice_index}
use Rattle.std.proofs.Common.{◌≡◌, ◌⊎◌, ◌<◌, ◌≤◌, ◌+◌, ◌∙◌, ℕ, List, [], ◌∷◌, ◌++◌, inl, inr, sym, ap, subst, arith}
use Rattle.std.proofs.lemmas.List.Elements.{Contains-append_left, Contains-push, Contains-push_cases}
use Rattle.hprof_reach.proofs.Putting.{earlier}

module _ (node : ℕ → ℕ) (items : List ℕ) (start : ℕ) where
  -- the number of the node stands between the start and the place
  pub record IsPassed (place id : ℕ) : Type 0 where
    pub at : ℕ
    pub from : start ≤ at
    pub before : at < place
    pub is : node (slice_index items at) ≡ id

  -- behind the nodes that were there stand those whose numbers were passed
  abbrev pub PutsPassed : List ℕ → ℕ → List ℕ → Type 0
  PutsPassed old place new = (id : ℕ) → Contains new id ↔ (Contains old id ⊎ IsPassed place id)

  pub puts_none : (old : List ℕ) (place : ℕ) → place ≤ start → PutsPassed old place old
  puts_none old place low id = (
    λ has. inl has,
    λ either. elim either [ inl has ↦ has | inr passed ↦ absurd (omega (arith, passed.from, passed.before, low)) ],
  )

  pub puts_more : (old mid new : List ℕ) (place one : ℕ) → start ≤ place → one ≡ node (slice_index items place) → new ≡ mid ++ one ∷ []
      → PutsPassed old place mid → PutsPassed old (place + 1) new
  puts_more old mid new place one up one_is new_is puts id = (there, back) where
    there : Contains new id → Contains old id ⊎ IsPassed (place + 1) id
    there has = elim (Contains-push_cases mid one id (subst (λ (l : List ℕ). Contains l id) new_is has)) [
      | inl was ↦ elim ((puts id).0 was) [
        | inl first ↦ inl first
        | inr passed ↦ inr (record { at = passed.at; from = passed.from; before = omega (arith, passed.before); is = passed.is })
      ]
      | inr now ↦ inr (record { at = place; from = up; before = omega arith; is = sym one_is ∙ now })
    ]

    put : Contains (mid ++ one ∷ []) id → Contains new id
    put has = subst (λ (l : List ℕ). Contains l id) (sym new_is) has

    back : Contains old id ⊎ IsPassed (place + 1) id → Contains new id
    back (inl first) = put (Contains-append_left mid (one ∷ []) id ((puts id).1 (inl first)))
    back (inr passed) = elim (earlier passed.at place passed.before) [
      | inl early ↦ put (Contains-append_left mid (one ∷ []) id
          ((puts id).1 (inr (record { at = passed.at; from = passed.from; before = early; is = passed.is }))))
      | inr here ↦
          let same : one ≡ id = one_is ∙ ap (λ (n : ℕ). node (slice_index items n)) (sym here) ∙ passed.is in
          put (subst (λ (n : ℕ). Contains (mid ++ one ∷ []) n) same (Contains-push mid one))
    ]
