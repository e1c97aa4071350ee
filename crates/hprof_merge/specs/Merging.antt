-- What a merge gives to its sink.
use Rattle.std.specs.Prelude.{◌≡◌, ◌≢◌, ◌<◌, ◌+◌, ◌++◌, [], ◌∷◌, ℕ, List, Result, Ok, Err}
use Rattle.hprof_merge.specs.Rows.{ByteRow, Has}
use Rattle.hprof_merge.specs.Union.{IsUnion, IsUnionBelow, rows_at}
use Rattle.hprof_merge.specs.Run.{Runs}

module _ {T : Type 0} (steps : T → ℕ → List ℕ → T → Type 0) where
  -- the sink was run over all rows of the lists, in order of key, each once
  pub record TakesAll (lists : List (List ByteRow)) (old new : T) : Type 0 where
    pub all : List ByteRow
    pub union : IsUnion lists all
    pub run : Runs steps old all new

  -- the sink was run over exactly those rows of the lists whose keys are below the bound, in order of key, each once
  pub record TakesBelow (lists : List (List ByteRow)) (bound : ℕ) (old new : T) : Type 0 where
    pub front : List ByteRow
    pub union : IsUnionBelow lists bound front
    pub run : Runs steps old front new

module _ {T G : Type 0} (steps : T → ℕ → List ℕ → T → Type 0) (refuses : T → ℕ → List ℕ → G → T → Type 0) where
  -- after the rows below it, the sink refused this row of the lists, the only one with its key
  pub record RefusesRow (lists : List (List ByteRow)) (row : ByteRow) (fault : G) (old new : T) : Type 0 where
    pub front : List ByteRow
    pub union : IsUnionBelow lists (row.0 + 1) (front ++ row ∷ [])
    pub mid : T
    pub run : Runs steps old front mid
    pub refused : refuses mid row.0 row.1 fault new

  -- the sink took the first of these rows, or refused it; if there is none, it is unchanged
  abbrev pub GivesFirst : {A : Type 0} → List ByteRow → Result A G → T → T → Type 0
  GivesFirst [] (Ok done) old new = old ≡ new
  GivesFirst [] (Err fault) old new = ⊥
  GivesFirst (row ∷ rows) (Ok done) old new = steps old row.0 row.1 new
  GivesFirst (row ∷ rows) (Err fault) old new = refuses old row.0 row.1 fault new

-- the lists but the one that is held have rows above the key only
abbrev pub AllAbove : ℕ → ℕ → List (List ByteRow) → Type 0
AllAbove key held lists = (place : ℕ) → place ≢ held → (row : ByteRow) → Has (rows_at lists place) row → key < row.0
