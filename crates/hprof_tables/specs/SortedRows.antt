-- Rows in order of key: one list of them, two lists as one, and what a visit of a key does.
use Rattle.std.specs.Prelude.{◌≡◌, ◌+◌, ℕ, nat_lt, false, List, [], ◌∷◌, Option, Some, None, Result, Ok, Err, ⊤}
use Rattle.std.specs.Prelude.{is_some, if◌then◌else◌}
use Rattle.std.specs.List.{AllByRecursion}
use Rattle.std.specs.List.Sorted.{IsStrictlySortedBy, IsStrictlySortedBy-prop}
use Rattle.std.specs.Map.{keys_of, lookup}
use Rattle.std.specs.Ordering.{nat_cmp}
use Rattle.std.specs.BTreeMap.{is_at, insert_entry}

module _ {V : Type 0} where
  -- the row of a key
  abbrev pub row_at : ℕ → List (ℕ × V) → Option V
  row_at key rows = lookup (is_at (nat_cmp key)) rows

  -- the keys of the rows ascend, so that none comes twice
  abbrev pub IsAscending : List (ℕ × V) → Type 0
  IsAscending rows = IsStrictlySortedBy nat_cmp (keys_of rows)

  -- the keys of the rows have this property
  abbrev pub AreKeys : (ℕ → Type 0) → List (ℕ × V) → Type 0
  AreKeys P rows = AllByRecursion P (keys_of rows)

  -- it has at most one proof
  pub IsAscending-prop : (rows : List (ℕ × V)) → IsProp (IsAscending rows)
  IsAscending-prop rows = IsStrictlySortedBy-prop nat_cmp (keys_of rows)

  -- a row and what comes of the rest of its list, among others: those of lesser keys come before it
  abbrev pub put_among : ℕ × V → (List (ℕ × V) → List (ℕ × V)) → List (ℕ × V) → List (ℕ × V)
  put_among row rest [] = row ∷ rest []
  put_among row rest (other ∷ others) = if nat_lt row.0 other.0 then row ∷ rest (other ∷ others) else other ∷ put_among row rest others

  -- two lists as one: of their first rows the one with the lesser key comes first
  abbrev pub merged : List (ℕ × V) → List (ℕ × V) → List (ℕ × V)
  merged [] others = others
  merged (row ∷ rows) others = put_among row (merged rows) others

  -- a row that was taken, and those behind it; where none was, none is left
  abbrev pub behind_first : Option (ℕ × V) → List (ℕ × V) → List (ℕ × V)
  behind_first None rows = []
  behind_first (Some row) rows = row ∷ rows

  -- one above the last key, and 0 where there is no row
  abbrev pub end_of : List (ℕ × V) → ℕ
  end_of [] = 0
  end_of (row ∷ []) = row.0 + 1
  end_of (row ∷ next ∷ rows) = end_of (next ∷ rows)

  -- none of the rows has this key
  abbrev pub Misses : List (ℕ × V) → ℕ → Type 0
  Misses rows key = is_some (row_at key rows) ≡ false

module _ {V A : Type 0} (answers : V → A → Type 0) (makes : V → Type 0) where
  -- what a visit of a key does: at a new key a row is added; else nothing changes, and the row that is there was asked
  abbrev pub Visits : List (ℕ × V) → ℕ → Option A → List (ℕ × V) → Type 0
  Visits old key None new = (row_at key old ≡ None) × ((row : V) × makes row × (new ≡ insert_entry nat_cmp old key row))
  Visits old key (Some answer) new = (new ≡ old) × ((row : V) × (row_at key old ≡ Some row) × answers row answer)

-- where no row was made, what the rows lie in is as it was
abbrev pub LeavesUnmade : {A E : Type 0} → Result (Option A) E → List ℕ → List ℕ → Type 0
LeavesUnmade (Ok None) old new = ⊤
LeavesUnmade (Ok (Some answer)) old new = new ≡ old
LeavesUnmade (Err e) old new = new ≡ old
