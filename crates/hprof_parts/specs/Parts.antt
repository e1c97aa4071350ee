-- The bytes of parts, and what an opening of a part gives.
use Rattle.std.specs.Prelude.{◌≡◌, ℕ, List, drop, Option, Some, None, slice_index_or, ⊤}

-- the bytes of the part at a place, where they are told
abbrev pub bytes_at : List (Option (List ℕ)) → ℕ → Option (List ℕ)
bytes_at parts place = slice_index_or parts place None

-- where the bytes are told, those from the offset on are still to come
abbrev pub Gives : Option (List ℕ) → ℕ → Option (List ℕ) → Type 0
Gives None at left = ⊤
Gives (Some bytes) at left = left ≡ Some (drop at bytes)
