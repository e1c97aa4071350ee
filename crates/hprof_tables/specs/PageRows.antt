-- The rows of one page.
use Rattle.std.specs.Prelude.{◌<◌, ◌≤◌, ℕ, List, length, take, drop}
use Rattle.std.specs.Coded.{le_prop}
use Rattle.std.specs.List.Sorted.{IsStrictlySortedBy-prop}
use Rattle.std.proofs.Props.{props}
use Rattle.hprof_tables.specs.SortedRows.{AreKeys, IsAscending}

module _ {V : Type 0} where
  -- they ascend, and their keys lie from one to another
  pub record IsPage (from to : ℕ) (rows : List (ℕ × V)) : Type 0 where
    pub ascends : IsAscending rows
    pub within : AreKeys (λ key. (from ≤ key) × (key ≤ to)) rows

  -- it has at most one proof
  pub IsPage-prop : (from to : ℕ) (rows : List (ℕ × V)) → IsProp (IsPage from to rows)
  IsPage-prop from to rows = hlevel (props, le_prop, IsStrictlySortedBy-prop)

  -- a row of the key goes in front of the row at that place: those before it have lesser keys, and the others greater ones
  pub record GoesTo (key place : ℕ) (rows : List (ℕ × V)) : Type 0 where
    pub within : place ≤ length rows
    pub below : AreKeys (λ other. other < key) (take place rows)
    pub above : AreKeys (λ other. key < other) (drop place rows)
