use Rattle.std.proofs.Common.{◌≡◌, ◌<◌, ◌≤◌, ◌/◌, ℕ, length}
use Rattle.hprof_merge.specs.Tree.{IsDecidedBut, node_at}
use Rattle.hprof_merge.proofs.contest_tree.settle.Given as goal

abbrev pub invariant-loop-node : goal.invariant-loop-node
invariant-loop-node l =
    record {
      sized : length l.nodes ≡ length l.fn.nodes;
      within : l.node < length l.nodes;
      decided : IsDecidedBut (l.node / 2) l.nodes l.count;
      leaves : (leaf : ℕ) → l.count ≤ leaf → node_at l.nodes leaf ≡ node_at l.fn.nodes leaf;
    }

abbrev pub decreases-loop-node : goal.decreases-loop-node
decreases-loop-node l = l.node
