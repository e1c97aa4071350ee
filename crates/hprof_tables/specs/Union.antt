-- Two lists of rows, of which the first has its way.
use Rattle.std.specs.Prelude.{◌≡◌, ◌⊎◌, ℕ, List, None}
use Rattle.std.specs.Option.{option_or}
use Rattle.hprof_tables.specs.SortedRows.{row_at, IsAscending}

module _ {V : Type 0} where
  -- no key has a row in both
  abbrev pub AreApart : List (ℕ × V) → List (ℕ × V) → Type 0
  AreApart rows others = (key : ℕ) → (row_at key rows ≡ None) ⊎ (row_at key others ≡ None)

  -- the rows of both, in order of key; where both have a row at a key, that of the first
  pub record AreUnion (rows others all : List (ℕ × V)) : Type 0 where
    pub ascends : IsAscending all
    pub each : (key : ℕ) → row_at key all ≡ option_or (row_at key rows) (row_at key others)
