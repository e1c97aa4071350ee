use Rattle.std.specs.Prelude.{string_bytes, take}
use Rattle.std.specs.List.{flat_map}
use Rattle.std.proofs.Common.{◌≡◌, ◌++◌}
use Rattle.hprof_heap.specs.HeapFacts.{facts_of, size_of}
use Rattle.hprof_describe.specs.Findings.{AreFindings, Findings}
use Rattle.hprof_suspects.specs.Told.{told_text}
use Rattle.hprof_suspects.proofs.report.push_all.Given as goal

-- the lines of the suspects so far
abbrev pub invariant-loop-suspect : goal.invariant-loop-suspect
invariant-loop-suspect l = (found : Findings) → AreFindings (size_of l.heap) (facts_of l.heap) found
    → string_bytes l.text ≡ string_bytes l.fn.text ++ flat_map (told_text found l.retained l.labels) (take l.suspect-index l.told)
