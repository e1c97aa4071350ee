use Rattle.std.specs.Prelude.{take}
use Rattle.std.proofs.Common.{◌≡◌, ◌++◌}
use Rattle.hprof_suspects.specs.ToldHeaps.{named_nodes}
use Rattle.hprof_suspects.proofs.named.push_chains.Given as goal

-- the nodes of the chains so far
abbrev pub invariant-loop-suspect : goal.invariant-loop-suspect
invariant-loop-suspect l = l.nodes.items ≡ l.fn.nodes.items ++ named_nodes l.retained (take l.suspect-index l.told)
