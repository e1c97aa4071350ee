use Rattle.std.specs.Prelude.{map, take}
use Rattle.std.proofs.Common.{◌≡◌, ◌++◌}
use Rattle.hprof_retained.specs.Tree.{node_at}
use Rattle.hprof_suspects.proofs.named.push_places.Given as goal

-- the nodes at the places so far
abbrev pub invariant-loop-place : goal.invariant-loop-place
invariant-loop-place l = l.nodes.items ≡ l.fn.nodes.items ++ map (node_at l.retained) (take l.place-index l.places)
