-- What only weak references reach.
use Rattle.std.specs.Prelude.{◌↔◌, ℕ, List, Contains, length}
use Rattle.hprof_values.specs.declared.ids.IdSize.{IdSize}
use Rattle.hprof_items.specs.FactValue.{FactValue}
use Rattle.hprof_edges.specs.Edges.{AnyEdge}
use Rattle.hprof_reach.specs.Reaching.{IsStart, IsStepBy}
use Rattle.hprof_dominators.specs.Dominating as over
use Rattle.hprof_retained.specs.Retained.{IsHeld, IsSumOver, Sum}
use Rattle.hprof_retained.specs.declared.weakly.WeaklyHeld.{WeaklyHeld}

-- references of any kind lead there from a root, strong ones alone do not
abbrev pub IsWeaklyHeld : IdSize → List FactValue → ℕ → Type 0
IsWeaklyHeld ids facts node = over.IsReached (IsStart facts) (IsStepBy AnyEdge ids facts) node × ¬ (IsHeld ids facts node)

-- the bytes of the nodes that were found, and their number
abbrev pub weak_sum_of : WeaklyHeld → Sum
weak_sum_of weakly = record { bytes = weakly.bytes; objects = length weakly.nodes.items }

-- these are all nodes that are weakly held, with their sum
pub record AreWeaklyHeld (ids : IdSize) (facts : List FactValue) (weakly : WeaklyHeld) : Type 0 where
  pub exact : (node : ℕ) → Contains weakly.nodes.items node ↔ IsWeaklyHeld ids facts node
  pub sum : IsSumOver ids facts (IsWeaklyHeld ids facts) (weak_sum_of weakly)
