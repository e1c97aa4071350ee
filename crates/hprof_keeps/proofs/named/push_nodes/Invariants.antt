use Rattle.std.proofs.Common.{◌≡◌, ◌++◌, take}
use Rattle.hprof_keeps.specs.Kept.{nodes_at}
use Rattle.hprof_keeps.proofs.named.push_nodes.Given as goal

abbrev pub invariant-loop-place : goal.invariant-loop-place
invariant-loop-place l = l.nodes.items ≡ l.fn.nodes.items ++ nodes_at l.retained (take l.place-index l.places)
