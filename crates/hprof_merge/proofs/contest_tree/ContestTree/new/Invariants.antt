use Rattle.std.proofs.Common.{◌≡◌, ◌*◌, ℕ, length, None}
use Rattle.hprof_merge.specs.Tree.{node_at}
use Rattle.hprof_merge.proofs.contest_tree.ContestTree.new.Given as goal

abbrev pub invariant-loop : goal.invariant-loop
invariant-loop l = record {
  sized : length l.nodes.items ≡ 2 * l.counter;
  empty : (node : ℕ) → node_at l.nodes.items node ≡ None;
}
