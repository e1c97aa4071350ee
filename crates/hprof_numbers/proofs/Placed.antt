-- The number of a node among nodes that ascend.
use Rattle.std.specs.Prelude.{◌↔◌, Contains, IsTrue, Option, is_some, refl}
use Rattle.std.proofs.Common.{◌≡◌, ◌<◌, ◌≤◌, ◌-◌, ◌==◌, ℕ, Bool, true, false, cond, List, length, slice_index, nat_lt, Some, None, Result}
use Rattle.std.proofs.Common.{Ok, Err, inl, inr, sym, ◌∙◌, arith, nat_cmp, eqb-true, eq-eqb, ne_eqb}
use Rattle.std.specs.List.{position_or_len}
use Rattle.std.specs.List.Sorted.{IsStrictlyIncreasing, IsBinarySearchResult}
use Rattle.std.specs.Result.{result_ok}
use Rattle.std.proofs.lemmas.Grind.{common_steps, get_or_default_zero}
use Rattle.std.proofs.lemmas.List.Quantifiers.{position-Some}
use Rattle.std.proofs.lemmas.List.Sorted.{searched}
use Rattle.std.proofs.lemmas.List.Sums.{fails_before_first, position_or_len_is}
use Rattle.hprof_numbers.specs.Places.{number_in}
use Rattle.hprof_numbers.proofs.Ascending.{less_far, not_less_far}
use Rattle.hprof_numbers.proofs.Places.{splits}

-- a node that is nowhere has no number
fails_all : (p : ℕ → Bool) (xs : List ℕ) → ((k : ℕ) → k < length xs → p (slice_index xs k) ≡ false) → position_or_len p xs ≡ length xs
fails_all p xs none = position_or_len_is p xs (length xs) 0 (omega arith) none (λ below. absurd (omega arith))

module _ (nodes : List ℕ) (node : ℕ) where
  pub no_number : ((number : ℕ) → number < length nodes → slice_index nodes number ≡ node → ⊥) → number_in nodes node ≡ None
  no_number nowhere =
      let first = fails_all (λ other. other == node) nodes (λ number below. ne_eqb (slice_index nodes number) node
      (nowhere number below)) in
      let never : nat_lt (length nodes) (length nodes) ≡ false = grind arith in
      (λ i. cond (nat_lt (first i) (length nodes)) (Some (first i)) None) ∙ (λ i. cond (never i) (Some (length nodes)) None)

  -- and one that has none is nowhere
  pub nowhere : number_in nodes node ≡ None → (number : ℕ) → number < length nodes → slice_index nodes number ≡ node → ⊥
  nowhere none number below same =
      let passes = eq-eqb (slice_index nodes number) node same in
      let fails = fails_before_first (λ other. other == node) nodes number 0
      (let outside : length nodes ≤ position_or_len (λ other. other == node) nodes = grind (arith, common_steps) in omega arith) in
      absurd (cc)

  pub stands : (number : ℕ) → number_in nodes node ≡ Some number → (number < length nodes) × (slice_index nodes number ≡ node)
  stands number some =
      let is = position-Some (λ other. other == node) nodes number 0 some in
      (is.0, eqb-true (slice_index nodes number) node is.1)

  -- it has one where it is one of the nodes
  pub has_number : (number : Option ℕ) → number ≡ number_in nodes node → IsTrue (is_some number) ↔ Contains nodes node
  has_number None none = (
    λ test. absurd cc,
    λ has. absurd (nowhere (sym none) has.0 has.1 (sym (get_or_default_zero nodes has.0 node has.1) ∙ has.2)),
  )
  has_number (Some number) some = (
    λ test. let is = stands number (sym some) in (number, is.0, get_or_default_zero nodes number node is.0 ∙ is.1),
    λ has. refl,
  )

  module _ (ascend : IsStrictlyIncreasing nodes) where
    pub has_place : (number : ℕ) → number < length nodes → slice_index nodes number ≡ node → number_in nodes node ≡ Some number
    has_place number below same =
        let first = position_or_len_is (λ other. other == node) nodes number 0 (omega arith)
        (λ k less. ne_eqb (slice_index nodes k) node (λ equal. let up = less_far nodes ascend k number less below in omega arith))
        (λ within. eq-eqb (slice_index nodes number) node same) in
        let within : nat_lt number (length nodes) ≡ true = grind arith in
        (λ i. cond (nat_lt (first i) (length nodes)) (Some (first i)) None) ∙ (λ i. cond (within i) (Some number) None)

    -- a node that belongs between two others has no number
    pub between : (place : ℕ) → place ≤ length nodes → (0 < place → slice_index nodes (place - 1) < node)
        → (place < length nodes → node < slice_index nodes place) → number_in nodes node ≡ None
    between place within before behind = no_number (λ number below same. elim (splits number place) [
      | inl less ↦
          let up = not_less_far nodes ascend number (place - 1) (omega arith) (omega arith) in
          let low = before (omega arith) in
          omega arith
      | inr more ↦
          let up = not_less_far nodes ascend place number more below in
          let high = behind (omega arith) in
          omega arith
    ])

    -- what is found by halves
    pub by_halves : (r : Result ℕ ℕ) → IsBinarySearchResult (λ y. nat_cmp y node) nodes r → result_ok r ≡ number_in nodes node
    by_halves (Ok number) search =
        let told = searched nodes node (Ok number) search (not_less_far nodes ascend) in
        sym (has_place number told.0 told.1)
    by_halves (Err number) search =
        let told = searched nodes node (Err number) search (not_less_far nodes ascend) in
        sym (no_number (λ other below same. elim (splits other number) [
          | inl before ↦ let less = told.1 other before in omega arith
          | inr after ↦ let more = told.2 other after below in omega arith
        ]))
