-- What holds or does not.
use Rattle.std.proofs.Common.{◌⊎◌, ◌≡◌, ℕ, inl, inr}
use Rattle.std.proofs.lemmas.Bool.{cases_eq}

-- it holds, or it does not
abbrev pub Decided : Type 0 → Type 0
Decided P = P ⊎ (P → ⊥)

pub either_decided : {P Q : Type 0} → Decided P → Decided Q → Decided (P ⊎ Q)
either_decided (inl is) other = inl (inl is)
either_decided (inr none) (inl is) = inl (inr is)
either_decided (inr none) (inr none_too) = inr (λ is. elim is [ inl one ↦ none one | inr other ↦ none_too other ])

pub both_decided : {P Q : Type 0} → Decided P → Decided Q → Decided (P × Q)
both_decided (inl is) (inl is_too) = inl (is, is_too)
both_decided (inl is) (inr none) = inr (λ both. none both.1)
both_decided (inr none) other = inr (λ both. none both.0)

pub not_decided : {P : Type 0} → Decided P → Decided (P → ⊥)
not_decided (inl is) = inr (λ none. none is)
not_decided (inr none) = inl none

pub apart_decided : (one other : ℕ) → Decided (one ≡ other → ⊥)
apart_decided one other = not_decided (cases_eq one other)
