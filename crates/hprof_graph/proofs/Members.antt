-- Members of lists of identifiers.
use Rattle.std.specs.Prelude.{◌↔◌, nat_eq}
use Rattle.std.specs.List.{AllByRecursion, IsDistinct, filter, list_any}
use Rattle.std.proofs.Common.{◌≡◌, ℕ, ◌+◌, ◌≤◌, ◌⊎◌, ◌&&◌, ◌||◌, Bool, true, false, not, cond, List, [], ◌∷◌, length, Contains, refl, sym}
use Rattle.std.proofs.Common.{ap, ◌∙◌}
use Rattle.std.proofs.Common.{inl, inr, arith}
use Rattle.std.proofs.lemmas.Bool.{and_parts, eqb-true}
use Rattle.std.proofs.lemmas.Cmp.{nat_eq_equiv}
use Rattle.std.proofs.lemmas.List.Filters.{length-filter_both}
use Rattle.std.proofs.lemmas.Map.Made.{is_member-filter, length-le_from_is_member}
use Rattle.std.proofs.lemmas.Map.Views.{Contains-from_any, list_any-from_Contains}

-- whether a number is one of them
abbrev pub is_in : List ℕ → ℕ → Bool
is_in xs x = list_any (nat_eq x) xs

pub from_is_in : (xs : List ℕ) (x : ℕ) → is_in xs x ≡ true → Contains xs x
from_is_in xs x e = Contains-from_any {eq = nat_eq} eqb-true x xs e

pub to_is_in : (xs : List ℕ) (x : ℕ) → Contains xs x → is_in xs x ≡ true
to_is_in xs x there = list_any-from_Contains nat_eq_equiv x xs there

-- it is or not
pub member_or_not : (xs : List ℕ) (x : ℕ) → Contains xs x ⊎ (Contains xs x → ⊥)
member_or_not xs x = go (is_in xs x) refl where
  go : (t : Bool) → is_in xs x ≡ t → Contains xs x ⊎ (Contains xs x → ⊥)
  go true e = inl (from_is_in xs x e)
  go false e = inr (λ there. (let yes = to_is_in xs x there in let no = e in absurd cc))

-- a list that has none twice is no longer than one that has its members
pub no_longer : (xs ys : List ℕ) → IsDistinct nat_eq xs → ((x : ℕ) → Contains xs x → Contains ys x) → length xs ≤ length ys
no_longer xs ys once all =
    length-le_from_is_member nat_eq_equiv xs ys once (λ x e. to_is_in ys x (all x (from_is_in xs x e)))

none_equal : (x : ℕ) (xs : List ℕ) → AllByRecursion (λ y. nat_eq x y ≡ false) xs → is_in xs x ≡ false
none_equal x [] all = refl
none_equal x (y ∷ ys) all = ap (λ (t : Bool). t || is_in ys x) all.0 ∙ none_equal x ys all.1

-- the first of a list that has none twice is not among the rest
pub not_in_rest : (x : ℕ) (xs : List ℕ) → IsDistinct nat_eq (x ∷ xs) → Contains xs x → ⊥
unfolding IsDistinct
not_in_rest x xs once there = let no = none_equal x xs once.0 in let yes = to_is_in xs x there in cc

-- ---- those that are not among others

abbrev pub without : List ℕ → List ℕ → List ℕ
without others xs = filter (λ x. not (is_in others x)) xs

module _ (p : ℕ → Bool) where
  all_kept : (P : ℕ → Type 0) (xs : List ℕ) → AllByRecursion P xs → AllByRecursion P (filter p xs)
  all_kept P [] all = all
  all_kept P (x ∷ xs) all =
      elim (p x) as (λ t. AllByRecursion P (cond t (x ∷ filter p xs) (filter p xs))) [
        | true ↦ (all.0, all_kept P xs all.1)
        | false ↦ all_kept P xs all.1
      ]

  distinct_kept : (xs : List ℕ) → IsDistinct nat_eq xs → IsDistinct nat_eq (filter p xs)
  unfolding IsDistinct
  distinct_kept [] once = once
  distinct_kept (x ∷ xs) once =
      elim (p x) as (λ t. IsDistinct nat_eq (cond t (x ∷ filter p xs) (filter p xs))) [
        | true ↦ (all_kept (λ y. nat_eq x y ≡ false) xs once.0, distinct_kept xs once.1)
        | false ↦ distinct_kept xs once.1
      ]

  member_kept : (xs : List ℕ) (x : ℕ) → is_in (filter p xs) x ≡ (is_in xs x && p x)
  member_kept xs x = is_member-filter nat_eq_equiv p x (λ y e. ap p (eqb-true x y e)) xs

module _ (others xs : List ℕ) where
  pub without_once : IsDistinct nat_eq xs → IsDistinct nat_eq (without others xs)
  without_once once = distinct_kept (λ x. not (is_in others x)) xs once

  not_true : (t : Bool) → not t ≡ true → t ≡ true → ⊥
  not_true true fails passes = cc
  not_true false fails passes = cc

  not_so : (t : Bool) → (t ≡ true → ⊥) → not t ≡ true
  not_so true fails = absurd (fails refl)
  not_so false fails = refl

  pub without_are : (x : ℕ) → Contains (without others xs) x ↔ (Contains xs x × (Contains others x → ⊥))
  without_are x = (
    λ there.
        let both = and_parts (is_in xs x) (not (is_in others x))
        (sym (member_kept (λ y. not (is_in others y)) xs x) ∙ to_is_in (without others xs) x there) in
        (from_is_in xs x both.0, λ out. not_true (is_in others x) both.1 (to_is_in others x out)),
    λ both.
        let yes : is_in xs x ≡ true = to_is_in xs x both.0 in
        let no : not (is_in others x) ≡ true = not_so (is_in others x) (λ e. both.1 (from_is_in others x e)) in
        from_is_in (without others xs) x
        (member_kept (λ y. not (is_in others y)) xs x ∙ ap (λ (t : Bool). t && not (is_in others x)) yes ∙ no),
  )

  -- so many are left, where the others are among them
  pub without_count : IsDistinct nat_eq xs → IsDistinct nat_eq others → ((x : ℕ) → Contains others x → Contains xs x)
      → length (without others xs) + length others ≡ length xs
  without_count once others_once all =
      let within = filter (is_in others) xs in
      let both = length-filter_both (is_in others) (λ x. not (is_in others x)) (λ x. refl) xs in
      let up = no_longer within others (distinct_kept (is_in others) xs once) (λ x there.
      from_is_in others x (and_parts (is_in xs x) (is_in others x)
      (sym (member_kept (is_in others) xs x) ∙ to_is_in within x there)).1) in
      let down = no_longer others within others_once (λ x there.
      let yes : is_in xs x ≡ true = to_is_in xs x (all x there) in
      from_is_in within x (member_kept (is_in others) xs x ∙ ap (λ (t : Bool). t && is_in others x) yes ∙ to_is_in others x there)) in
      omega (arith, both, up, down)
