-- What is held is a node.
use Rattle.std.proofs.Common.{ℕ, List, [], ◌∷◌}
use Rattle.hprof_values.specs.declared.ids.IdSize.{IdSize}
use Rattle.hprof_items.specs.FactValue.{FactValue}
use Rattle.hprof_dominators.specs.Walks as listed
use Rattle.hprof_dominators.proofs.Listed.{same_reached}
use Rattle.hprof_reach.specs.Reaching.{IsNode, IsStart, IsStepBy}
use Rattle.hprof_weak.specs.Weak.{IsStrong}
use Rattle.hprof_retained.specs.Retained.{IsHeld}

pub held_is_node : (ids : IdSize) (facts : List FactValue) (node : ℕ) → IsHeld ids facts node → IsNode facts node
held_is_node ids facts node held = go walk.0 walk.1 where
  walk : listed.Reached (IsStart facts) (IsStepBy (IsStrong facts) ids facts) node
  walk = (same_reached (IsStart facts) (IsStepBy (IsStrong facts) ids facts) node).1 held

  go : (nodes : List ℕ) → listed.IsWalk (IsStart facts) (IsStepBy (IsStrong facts) ids facts) nodes node → IsNode facts node
  go [] start = start.0
  go (before ∷ nodes) step = step.0.1
