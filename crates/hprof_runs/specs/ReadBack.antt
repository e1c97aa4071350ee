-- Bytes that are read back.
use Rattle.std.specs.Prelude.{◌≡◌, ◌≤◌, ◌<◌, ℕ, List, [], length, take, drop, Option, Some, None, ⊤}

-- so many bytes at the front of the piece are those from the offset on, and none only where no bytes are there, or there is no room
pub record IsReadFrom (all : List ℕ) (at count : ℕ) (piece : List ℕ) : Type 0 where
  pub within : count ≤ length (drop at all)
  pub same : take count piece ≡ take count (drop at all)
  pub end : count ≡ 0 → 0 < length piece → length all ≤ at

-- the same, where the bytes are told
abbrev pub ReadsBack : Option (List ℕ) → ℕ → ℕ → List ℕ → Type 0
ReadsBack None at count piece = ⊤
ReadsBack (Some all) at count piece = IsReadFrom all at count piece

-- no bytes were written, where they are told
abbrev pub HoldsNothing : Option (List ℕ) → Type 0
HoldsNothing None = ⊤
HoldsNothing (Some all) = all ≡ []
