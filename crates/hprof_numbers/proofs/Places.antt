-- Places below and behind others.
use Rattle.std.proofs.Common.{◌⊎◌, ◌<◌, ◌≤◌, ℕ, inl, inr, arith}
use Rattle.std.proofs.lemmas.Bool.{cases_order}

-- a place lies below another, or not
pub splits : (place middle : ℕ) → (place < middle) ⊎ (middle ≤ place)
splits place middle = elim (cases_order place middle) [
  | inl same ↦ inr (omega arith)
  | inr apart ↦ elim apart [ inl lt ↦ inl lt | inr gt ↦ inr (omega arith) ]
]
