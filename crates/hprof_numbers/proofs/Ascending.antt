-- Numbers that ascend.
use Rattle.std.proofs.Common.{◌≡◌, ℕ, ◌<◌, ◌≤◌, List, length, slice_index, Contains, inl, inr, ap, sym, ◌∙◌, arith}
use Rattle.std.specs.List.Sorted.{IsStrictlyIncreasing}
use Rattle.std.proofs.lemmas.Bool.{cases_order}
use Rattle.std.proofs.lemmas.Grind.{get_or_default_zero}
use Rattle.std.proofs.lemmas.List.Kept.{AllPairs-from_increasing}

module _ (nodes : List ℕ) (ascend : IsStrictlyIncreasing nodes) where
  pub less_far : (place other : ℕ) → place < other → other < length nodes → slice_index nodes place < slice_index nodes other
  less_far place other before below = AllPairs-from_increasing nodes ascend place other 0 before below

  pub not_less_far : (place other : ℕ) → place ≤ other → other < length nodes → slice_index nodes place ≤ slice_index nodes other
  not_less_far place other before below = elim (cases_order place other) [
    | inl same ↦ let e = ap (slice_index nodes) same in omega arith
    | inr apart ↦ elim apart [
      | inl lt ↦ let less = less_far place other lt below in omega arith
      | inr gt ↦ absurd (omega arith)
    ]
  ]

  -- a lesser number stands before
  pub before_of_less : (place other : ℕ) → place < length nodes → slice_index nodes place < slice_index nodes other → place < other
  before_of_less place other below less = elim (cases_order place other) [
    | inl same ↦ let e = ap (slice_index nodes) same in absurd (omega arith)
    | inr apart ↦ elim apart [
      | inl lt ↦ lt
      | inr gt ↦ let more = less_far other place gt below in absurd (omega arith)
    ]
  ]

  -- each number stands once
  pub one_place : (place other : ℕ) → place < length nodes → other < length nodes
      → slice_index nodes place ≡ slice_index nodes other → place ≡ other
  one_place place other below within same = elim (cases_order place other) [
    | inl e ↦ e
    | inr apart ↦ elim apart [
      | inl lt ↦ let less = less_far place other lt within in absurd (omega arith)
      | inr gt ↦ let less = less_far other place gt below in absurd (omega arith)
    ]
  ]

-- a number that is there stands at a place
pub number_of : (nodes : List ℕ) (node : ℕ) → Contains nodes node → (place : ℕ) × (place < length nodes) × (slice_index nodes place ≡ node)
number_of nodes node has = (has.0, has.1, sym (get_or_default_zero nodes has.0 node has.1) ∙ has.2)

pub has_number : (nodes : List ℕ) (node place : ℕ) → place < length nodes → slice_index nodes place ≡ node → Contains nodes node
has_number nodes node place below is = (place, below, get_or_default_zero nodes place node below ∙ is)
