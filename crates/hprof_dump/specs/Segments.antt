-- How sub-records are divided among segments. Each has a size, and a segment of more than one of them has a most.
use Rattle.std.specs.Prelude.{◌≡◌, ℕ, ◌+◌, ◌≤◌, ◌<◌, nat_le, List, [], ◌∷◌, ◌++◌, sum_by, ⊤, if◌then◌else◌}
use Rattle.std.specs.List.{AllByRecursion, flat_map}

module _ {A : Type 0} (size : A → ℕ) (most : ℕ) where
  -- a segment is not empty; it is no longer than the most, or one sub-record alone
  abbrev pub IsSegment : List A → Type 0
  IsSegment [] = ⊥
  IsSegment (only ∷ []) = ⊤
  IsSegment (first ∷ second ∷ others) = sum_by size (first ∷ second ∷ others) ≤ most

  -- the first sub-record of the next segment would not have gone into this one
  abbrev pub HasNoRoomFor : List A → List A → Type 0
  HasNoRoomFor segment [] = ⊤
  HasNoRoomFor segment (next ∷ others) = most < sum_by size segment + size next

  -- each segment is as full as it can be
  abbrev pub AreFull : List (List A) → Type 0
  AreFull [] = ⊤
  AreFull (last ∷ []) = ⊤
  AreFull (segment ∷ next ∷ segments) = HasNoRoomFor segment next × AreFull (next ∷ segments)

  -- the segments are the sub-records in their order, and each is as full as it can be
  pub record IsPacked (subs : List A) (segments : List (List A)) : Type 0 where
    pub in_order : flat_map (λ segment. segment) segments ≡ subs
    pub each : AllByRecursion IsSegment segments
    pub full : AreFull segments

  -- the segments of sub-records behind those of one that was begun
  abbrev pub packed_behind : List A → List A → List (List A)
  packed_behind begun [] = begun ∷ []
  packed_behind begun (next ∷ subs) =
      if nat_le (sum_by size begun + size next) most then packed_behind (begun ++ next ∷ []) subs else begun ∷ packed_behind
      (next ∷ []) subs

  -- the segments of sub-records: each goes into the one that was begun last, where it has room
  abbrev pub packed : List A → List (List A)
  packed [] = []
  packed (first ∷ subs) = packed_behind (first ∷ []) subs
