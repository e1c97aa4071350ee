-- The numbers of a level, and how many are left.
use Rattle.std.proofs.Common.{◌≡◌, ◌↔◌, ◌<◌, ◌≤◌, ◌+◌, ◌==◌, ℕ, true, false, not, List, [], ◌∷◌, Contains, count_by, get_or, length}
use Rattle.std.proofs.Common.{replicate, inl, inr, refl, ap, subst, arith, eq-eqb}
use Rattle.std.proofs.lemmas.List.{get_or-replicate, get_or_past, length-replicate}
use Rattle.std.proofs.lemmas.List.Sums.{count_by-le-length}
use Rattle.hprof_search.specs.Finds.{Finds, Follows, is_found}
use Rattle.hprof_numbers.proofs.Places.{splits}

pub none_there : (items : List ℕ) → length items ≡ 0 → items ≡ []
none_there [] none = refl
none_there (item ∷ items) none = absurd (omega arith)

pub some_there : (items : List ℕ) (count : ℕ) → count ≡ length items → count == 0 ≡ false → 0 < length items
some_there [] count same some = let none = eq-eqb count 0 same in absurd (cc)
some_there (item ∷ items) count same some = omega arith

-- of so many numbers none was found
pub none_found : (count number : ℕ) → get_or (replicate count false) number false ≡ false
none_found count number = elim (splits number count) [
  | inl below ↦ get_or-replicate count number false false below
  | inr beyond ↦ get_or_past (replicate count false) number false (let long = length-replicate count false in omega arith)
]

module _ (Led : ℕ → ℕ → Type 0) (old new : Finds) (follows : Follows Led old new) (none : old.next ≡ []) (level : List ℕ) where
  -- where there was none, the next level is what came
  pub came_next : ((number : ℕ) → Contains level number ↔ Contains new.next number)
      → (number : ℕ) → Contains level number ↔ ((is_found old number ≡ false) × (is_found new number ≡ true))
  came_next same number = (
    λ has. elim ((follows.next number).0 ((same number).0 has)) [
      | inl was ↦
          let has_none = subst (λ (ns : List ℕ). Contains ns number) none was in
          let below = has_none.1 in
          absurd (omega arith)
      | inr came ↦ came
    ],
    λ came. (same number).1 ((follows.next number).1 (inr came)),
  )

  -- what is left to be found, and the level
  pub few_left : length level ≡ length new.next → count_by not new.found + length level ≡ count_by not old.found
  few_left same =
      let counted = follows.counted in
      let long : length old.next ≡ 0 = ap (length {A = ℕ}) none in
      omega arith

  pub few_first : length level ≡ length new.next → count_by not new.found + length level ≤ length old.found
  few_first same =
      let left = few_left same in
      let most = count_by-le-length not old.found in
      omega arith
