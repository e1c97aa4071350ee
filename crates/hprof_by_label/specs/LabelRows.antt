-- What the classes and objects of a heap retain, added up by label. The sums and their order are this project's own.
use Rattle.std.specs.Prelude.{◌≡◌, ℕ, List, Contains}
use Rattle.std.specs.Cmp.Lexicographic.{slice_cmp}
use Rattle.std.specs.List.Sorted.{IsStrictlySortedBy}
use Rattle.std.specs.Ordering.{nat_cmp, ordering_then}
use Rattle.std.specs.declared.cmp.Ordering.{Ordering}
use Rattle.hprof_values.specs.declared.ids.IdSize.{IdSize}
use Rattle.hprof_items.specs.FactValue.{FactValue}
use Rattle.hprof_retained.specs.Retained.{AreBytesOver, Dominates, IsHeld, IsSumOver}
use Rattle.hprof_by_label.specs.NodeLabel.{IsNodeLabel}

-- a label; the bytes that its nodes retain; their own bytes, and their number
pub record RowValue : Type 0 where
  pub label : List ℕ
  pub retained : ℕ
  pub bytes : ℕ
  pub count : ℕ

-- strong references reach the node, and it has that label
abbrev pub IsHeldWith : IdSize → List FactValue → List ℕ → ℕ → Type 0
IsHeldWith ids facts label node = IsHeld ids facts node × IsNodeLabel facts node label

-- some node with that label dominates the node; several may, and the node counts once all the same
abbrev pub IsKeptBy : IdSize → List FactValue → List ℕ → ℕ → Type 0
IsKeptBy ids facts label node = (x : ℕ) × IsNodeLabel facts x label × Dominates ids facts x node

-- the row of a label that a node has which is held
pub record IsRow (ids : IdSize) (facts : List FactValue) (row : RowValue) : Type 0 where
  pub some : (node : ℕ) × IsHeldWith ids facts row.label node
  pub own : IsSumOver ids facts (IsHeldWith ids facts row.label) (record { bytes = row.bytes; objects = row.count })
  pub retained : AreBytesOver ids facts (IsKeptBy ids facts row.label) row.retained

-- the most retained bytes first, then the most bytes of their own, then the most nodes, then by label, byte by byte
abbrev pub row_cmp : RowValue → RowValue → Ordering
row_cmp row other = ordering_then (nat_cmp other.retained row.retained) (ordering_then (nat_cmp other.bytes row.bytes)
    (ordering_then (nat_cmp other.count row.count) (slice_cmp nat_cmp row.label other.label)))

-- these are the rows of all labels, in that order
pub record AreRows (ids : IdSize) (facts : List FactValue) (rows : List RowValue) : Type 0 where
  pub ordered : IsStrictlySortedBy row_cmp rows
  pub right : (row : RowValue) → Contains rows row → IsRow ids facts row
  pub all : (label : List ℕ) (node : ℕ) → IsHeldWith ids facts label node → (row : RowValue) × Contains rows row × (row.label ≡ label)
