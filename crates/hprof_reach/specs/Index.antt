-- An index of what refers to what in a heap.
use Rattle.std.specs.Prelude.{ℕ, List}
use Rattle.hprof_values.specs.declared.ids.IdSize.{IdSize}
use Rattle.hprof_items.specs.FactValue.{FactValue}
use Rattle.hprof_layouts.specs.Known.{Knows}
use Rattle.hprof_reach.specs.Reaching.{IsNode, Leads}
use Rattle.hprof_numbers.specs.Predecessors.{IsSource}
use Rattle.hprof_reach.specs.declared.index.ReferrerIndex.{ReferrerIndex}

-- the layouts are known, and each node that refers to an identifier is among its sources
pub record IsIndexOf (ids : IdSize) (facts : List FactValue) (index : ReferrerIndex) : Type 0 where
  pub knows : Knows ids facts index.known
  pub covers : (from to : ℕ) → IsNode facts from → Leads ids facts from to → IsSource index.sources from to
