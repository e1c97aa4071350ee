-- Whether an identifier is among others, looked for from the first on.
use Rattle.std.specs.Prelude.{nat_eq}
use Rattle.std.proofs.Common.{◌≡◌, ◌↔◌, ◌⊎◌, ◌||◌, ℕ, ◌<◌, ◌%◌, Bool, true, false, List, [], ◌∷◌, length, drop, Contains, IsTrue}
use Rattle.std.proofs.Common.{refl, sym, subst, inl, inr, arith, ◌∙◌, ap}
use Rattle.std.proofs.lemmas.Bool.{eq-eqb, eqb-true}
use Rattle.std.proofs.lemmas.List.Elements.{Contains-append_cases, Contains-append_left, Contains-append_right, Contains-push}
use Rattle.std.proofs.lemmas.List.Elements.{Contains-push_cases}
use Rattle.byteorder.specs.Endian.{big_number}
use Rattle.hprof_values.specs.declared.ids.IdSize.{IdSize}
use Rattle.hprof_values.specs.Ids.{width_of}
use Rattle.hprof_values.specs.Lists.{ids_in}
use Rattle.hprof_values.proofs.IdLists.{id_first}

-- it is found among the first ones, or it is among the others
abbrev pub FoundOrAmong : Bool → List ℕ → ℕ → Type 0
FoundOrAmong found others id = IsTrue found ⊎ Contains others id

nothing_there : (id : ℕ) → Contains [] id → ⊥
nothing_there id there = let within = there.1 in omega arith

-- the one element
only_one : (first id : ℕ) → Contains (first ∷ []) id → first ≡ id
only_one first id there = elim (Contains-push_cases [] first id there) [ inl none ↦ absurd (nothing_there id none) | inr same ↦ same ]

-- one more was compared
pub one_compared : (first id : ℕ) (others : List ℕ) (found : Bool)
    → FoundOrAmong (found || nat_eq first id) others id ↔ FoundOrAmong found (first ∷ others) id
one_compared first id others true = (λ it. inl refl, λ it. inl refl)
one_compared first id others false = go (nat_eq first id) refl where
  go : (same : Bool) → nat_eq first id ≡ same → FoundOrAmong same others id ↔ FoundOrAmong false (first ∷ others) id
  go true e = (
    λ it. inr (Contains-append_left (first ∷ []) others id (subst (Contains (first ∷ [])) (eqb-true first id e)
        (Contains-push [] first))),
    λ it. inl refl,
  )
  go false e = (
    λ it. elim it [
      | inl never ↦ (let no : false ≡ true = never in absurd cc)
      | inr there ↦ inr
          (Contains-append_right (first ∷ []) others id there)
    ],
    λ it. elim it [
      | inl never ↦ (let no : false ≡ true = never in absurd cc)
      | inr there ↦ elim (Contains-append_cases (first ∷ []) others id there) [
        | inl one ↦ let yes = eq-eqb first id (only_one first id one) in absurd cc
        | inr later ↦ inr later
      ]
    ],
  )

-- the first identifier was compared
pub first_compared : (ids : IdSize) (bytes rest : List ℕ) (first id : ℕ) (found : Bool) → 0 < length bytes → length bytes % width_of ids ≡ 0
    → first ≡ big_number (width_of ids) bytes → rest ≡ drop (width_of ids) bytes
    → FoundOrAmong (found || nat_eq first id) (ids_in ids rest) id ↔ FoundOrAmong found (ids_in ids bytes) id
first_compared ids bytes rest first id found some whole is is_rest =
    subst (λ (all : List ℕ). FoundOrAmong (found || nat_eq first id) (ids_in ids rest) id ↔ FoundOrAmong found all id)
    (ap (λ (n : ℕ). n ∷ ids_in ids rest) is ∙ ap (λ (r : List ℕ). big_number (width_of ids) bytes ∷ ids_in ids r) is_rest
    ∙ sym (id_first ids bytes some whole))
    (one_compared first id (ids_in ids rest) found)
