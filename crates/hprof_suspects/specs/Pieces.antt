-- What the parts right below each place retain; no public contract speaks of it.
use Rattle.std.specs.Prelude.{◌≡◌, ◌<◌, ◌≤◌, ℕ, List, Some, length, slice_index}
use Rattle.hprof_values.specs.declared.ids.IdSize.{IdSize}
use Rattle.hprof_items.specs.FactValue.{FactValue}
use Rattle.hprof_keeps.specs.Order.{node_of, retained_in}
use Rattle.hprof_retained.specs.Tree.{count_of, sum_at, total_of}
use Rattle.hprof_retained.specs.declared.retained.Retained.{Retained}
use Rattle.hprof_suspects.specs.Groups.{IsBelow}
use Rattle.hprof_suspects.specs.Parts.{AddUp, IsPart}

-- the node is a part right below the group of a place, or right below the roots
abbrev pub IsPartBelow : IdSize → List FactValue → Retained → ℕ → ℕ → Type 0
IsPartBelow ids facts retained group node = IsBelow ids facts (node_of retained group) node
    × IsPart ids facts (retained_in retained) (total_of retained) (Some node)

-- each place has a sum, which is not more than what it retains
pub record SumsFit (retained : Retained) (sums : List ℕ) : Type 0 where
  pub as_many : length sums ≡ count_of retained
  pub low : (place : ℕ) → place < count_of retained → slice_index sums place ≤ (sum_at retained place).bytes

-- of each place the bytes that the parts right below it retain
pub record ArePartSums (ids : IdSize) (facts : List FactValue) (retained : Retained) (sums : List ℕ) : Type 0 where
  pub as_many : length sums ≡ count_of retained
  pub each : (group : ℕ) → group < count_of retained → (count : ℕ)
      × AddUp ids facts (retained_in retained) (total_of retained) (IsPartBelow ids facts retained group) (slice_index sums group) count
