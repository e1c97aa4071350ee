-- How many of a list have a property.
use Rattle.std.specs.Prelude.{◌≡◌, ℕ, ◌+◌, ◌⊎◌, List, [], ◌∷◌}

-- so many of these have the property: each that has it counts for one, each that has not for none
abbrev pub IsCountOf : {A : Type 0} → (A → Type 0) → List A → ℕ → Type 0
IsCountOf P [] count = count ≡ 0
IsCountOf P (x ∷ xs) count = (P x × (others : ℕ) × (count ≡ others + 1) × IsCountOf P xs others) ⊎ (¬ (P x) × IsCountOf P xs count)
