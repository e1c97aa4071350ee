-- Two lists of keys and contents, side by side.
use Rattle.std.specs.Prelude.{◌≡◌, ◌≢◌, ◌<◌, ℕ, List, Option, Some, None}
use Rattle.hprof_tables.specs.SortedRows.{row_at, IsAscending}

-- both have a row at the key, with different contents
pub record DifferAt (rows others : List (ℕ × List ℕ)) (key : ℕ) : Type 0 where
  pub content : List ℕ
  pub other : List ℕ
  pub has_content : row_at key rows ≡ Some content
  pub has_other : row_at key others ≡ Some other
  pub differ : content ≢ other

-- the least key at which they differ; none where there is none
abbrev pub IsFirstDifference : List (ℕ × List ℕ) → List (ℕ × List ℕ) → Option ℕ → Type 0
IsFirstDifference rows others None = (key : ℕ) → DifferAt rows others key → ⊥
IsFirstDifference rows others (Some key) = DifferAt rows others key × ((lower : ℕ) → lower < key → DifferAt rows others lower → ⊥)

-- what is found in others only
abbrev pub only_other : Option (List ℕ) → Option (List ℕ) → Option (List ℕ)
only_other None other = other
only_other (Some content) other = None

-- the rows of others whose keys the rows lack, in order of key
pub record AreMissing (rows others missing : List (ℕ × List ℕ)) : Type 0 where
  pub ascends : IsAscending missing
  pub each : (key : ℕ) → row_at key missing ≡ only_other (row_at key rows) (row_at key others)

-- others have a row at a key at which rows have none
abbrev pub LacksOne : List (ℕ × List ℕ) → List (ℕ × List ℕ) → Type 0
LacksOne rows others = (key : ℕ) × (content : List ℕ) × (row_at key others ≡ Some content) × (row_at key rows ≡ None)
