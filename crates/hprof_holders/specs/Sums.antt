-- How often each text stands among others.
use Rattle.std.specs.Prelude.{◌≡◌, ◌↔◌, ℕ, List, length, Contains, bytes_eq}
use Rattle.std.specs.Cmp.Lexicographic.{slice_cmp}
use Rattle.std.specs.List.{filter}
use Rattle.std.specs.List.Sorted.{IsStrictlySortedBy}
use Rattle.std.specs.Ordering.{nat_cmp, ordering_then}
use Rattle.std.specs.declared.cmp.Ordering.{Ordering}

-- a text, and how often it stands there
pub record SumValue : Type 0 where
  pub text : List ℕ
  pub count : ℕ

-- the greater number comes first, and of equal numbers the lesser text, byte by byte
abbrev pub sum_cmp : SumValue → SumValue → Ordering
sum_cmp one other = ordering_then (nat_cmp other.count one.count) (slice_cmp nat_cmp one.text other.text)

-- how often a text stands among these
abbrev pub times_in : List ℕ → List (List ℕ) → ℕ
times_in text texts = length (filter (bytes_eq text) texts)

-- each text that stands among these once, with its number
pub record AreSums (texts : List (List ℕ)) (sums : List SumValue) : Type 0 where
  pub ordered : IsStrictlySortedBy sum_cmp sums
  pub exact : (sum : SumValue) → Contains sums sum ↔ (Contains texts sum.text × (sum.count ≡ times_in sum.text texts))
