-- Whether an identifier is one of some that ascend.
use Rattle.std.proofs.Common.{◌≡◌, ◌<◌, ◌≤◌, ◌==◌, ℕ, false, List, Result, Ok, Err, inl, inr, length, get_or, sym, ap, arith}
use Rattle.std.specs.List.{list_any}
use Rattle.std.specs.List.Sorted.{IsBinarySearchResult, IsStrictlyIncreasing}
use Rattle.std.specs.Ordering.{nat_cmp}
use Rattle.std.specs.Prelude.{is_ok}
use Rattle.std.proofs.lemmas.Bool.{cases_lt, eq-eqb, ne_eqb}
use Rattle.std.proofs.lemmas.List.Folds.{list_any_at, list_any_none}
use Rattle.std.proofs.lemmas.List.Elements.{All-from_get_or}
use Rattle.std.proofs.lemmas.List.Kept.{AllPairs-from_increasing}
use Rattle.std.proofs.lemmas.List.Sorted.{searched}

-- ascending numbers do not fall
never_fall : (xs : List ℕ) → IsStrictlyIncreasing xs → (i j : ℕ) → i ≤ j → j < length xs → get_or xs i 0 ≤ get_or xs j 0
never_fall xs ascend i j le lt = elim (cases_lt i j) [
  | inl before ↦ omega (arith, AllPairs-from_increasing xs ascend i j 0 before lt)
  | inr not_before ↦ let same : i ≡ j = omega (arith, le, not_before) in omega (arith, ap (λ (k : ℕ). get_or xs k 0) same)
]

-- what the search by halves tells is whether the identifier is among them
pub by_halves : (wanted : List ℕ) (id : ℕ) (found : Result ℕ ℕ) → IsStrictlyIncreasing wanted
    → IsBinarySearchResult (λ other. nat_cmp other id) wanted found → is_ok found ≡ list_any (λ other. other == id) wanted
by_halves wanted id (Ok place) ascend is =
    let told = searched wanted id (Ok place) is (never_fall wanted ascend) in
    sym (list_any_at (λ other. other == id) wanted place 0 told.0 (eq-eqb (get_or wanted place 0) id told.1))
by_halves wanted id (Err place) ascend is =
    let told = searched wanted id (Err place) is (never_fall wanted ascend) in
    sym (list_any_none (λ other. other == id) wanted
    (All-from_get_or (λ other. (other == id) ≡ false) wanted 0 (λ k lt. ne_eqb (get_or wanted k 0) id (λ same.
    elim (cases_lt k place) [
      | inl below ↦ let less = told.1 k below in omega (arith, same, less)
      | inr above ↦ let more = told.2 k above lt in omega (arith, same, more)
    ]))))
