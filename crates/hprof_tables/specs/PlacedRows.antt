-- Rows that stand in a list, by the places that a table keeps for their keys.
use Rattle.std.specs.Prelude.{◌<◌, ◌+◌, ℕ, List, [], ◌∷◌, Option, Some, None, length, slice_get}
use Rattle.std.specs.Coded.{le_prop}
use Rattle.std.specs.List.{AllByRecursion}
use Rattle.std.proofs.Props.{props}

module _ {V : Type 0} where
  -- a row with its key before other rows, if there is one
  abbrev pub with_row : ℕ → Option V → List (ℕ × V) → List (ℕ × V)
  with_row key None rows = rows
  with_row key (Some row) rows = (key, row) ∷ rows

  -- the keys with the rows that stand at their places; a key whose place is beyond the list has no row
  unfoldable pub rows_at : List V → List (ℕ × ℕ) → List (ℕ × V)
  rows_at rows [] = []
  rows_at rows (entry ∷ entries) = with_row entry.0 (slice_get rows entry.1) (rows_at rows entries)

  -- a row stands at each place
  unfoldable pub AreWithin : List V → List (ℕ × ℕ) → Type 0
  AreWithin rows entries = AllByRecursion (λ entry. entry.1 < length rows) entries

  -- it has at most one proof
  pub AreWithin-prop : (rows : List V) (entries : List (ℕ × ℕ)) → IsProp (AreWithin rows entries)
  unfolding AreWithin
  AreWithin-prop rows entries = hlevel (props, le_prop)

  -- the keys with places that count up from the first one
  abbrev pub numbered : ℕ → List (ℕ × V) → List (ℕ × ℕ)
  numbered first [] = []
  numbered first (row ∷ rows) = (row.0, first) ∷ numbered (first + 1) rows
