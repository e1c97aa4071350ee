use Rattle.std.proofs.Common.{◌<◌, ℕ, Contains}
use Rattle.hprof_retained.specs.Tree.{node_at}
use Rattle.hprof_suspects.specs.Grounds.{IsClassLabelled}
use Rattle.hprof_suspects.proofs.alone_over.push_class_nodes.Given as goal

-- the nodes at the places so far
abbrev pub invariant-loop-place : goal.invariant-loop-place
invariant-loop-place l = (place : ℕ) → 0 < place → place < l.place → IsClassLabelled l.labels place
    → Contains l.nodes.items (node_at l.retained place)
