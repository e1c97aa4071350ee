-- Keys with two contents.
use Rattle.std.specs.Prelude.{◌≢◌, ◌⊎◌, ◌<◌, ℕ, List}
use Rattle.hprof_merge.specs.Rows.{ByteRow}
use Rattle.hprof_merge.specs.Union.{AnyHas}

-- the lists have rows with this key and different bytes
pub record HasTwoContents (lists : List (List ByteRow)) (key : ℕ) : Type 0 where
  pub one : List ℕ
  pub other : List ℕ
  pub has_one : AnyHas lists (key, one)
  pub has_other : AnyHas lists (key, other)
  pub differ : one ≢ other

-- the least key that has two contents
pub record IsLeastWithTwoContents (lists : List (List ByteRow)) (key : ℕ) : Type 0 where
  pub contents : HasTwoContents lists key
  pub least : (lower : ℕ) → lower < key → HasTwoContents lists lower → ⊥

-- others have only rows of the lists, and all of them but rows at keys that have two contents in others too
pub record HasEnoughOf (lists others : List (List ByteRow)) : Type 0 where
  pub only : (row : ByteRow) → AnyHas others row → AnyHas lists row
  pub each : (row : ByteRow) → AnyHas lists row → AnyHas others row ⊎ HasTwoContents others row.0
