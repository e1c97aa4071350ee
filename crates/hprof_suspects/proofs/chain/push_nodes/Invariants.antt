use Rattle.std.specs.Prelude.{map, string_bytes, take}
use Rattle.std.proofs.Common.{◌≡◌, ◌++◌}
use Rattle.hprof_heap.specs.HeapFacts.{facts_of, size_of}
use Rattle.hprof_describe.specs.Findings.{AreFindings, Findings}
use Rattle.hprof_retained.specs.Tree.{node_at}
use Rattle.hprof_keeps.specs.KeepsText.{above_lines}
use Rattle.hprof_keeps.specs.Order.{retained_in}
use Rattle.hprof_suspects.proofs.chain.push_nodes.Given as goal

-- the lines so far
abbrev pub invariant-loop-place : goal.invariant-loop-place
invariant-loop-place l = (found : Findings) → AreFindings (size_of l.heap) (facts_of l.heap) found
    → string_bytes l.text
    ≡ string_bytes l.fn.text ++ above_lines found (retained_in l.retained) (map (node_at l.retained) (take l.place-index l.places))
