use Rattle.std.proofs.Common.{◌≡◌, ◌-◌, ◌++◌, codes}
use Rattle.std.specs.List.{flat_map, range_with_len}
use Rattle.std.specs.String.{string_bytes}
use Rattle.hprof_heap.specs.HeapFacts.{facts_of, size_of}
use Rattle.hprof_describe.specs.Findings.{AreFindings, Findings}
use Rattle.hprof_show.specs.NumberLines.{number_text, row_line}
use Rattle.hprof_show.proofs.number_lines.row_line.Given as goal

abbrev pub invariant-loop-at : goal.invariant-loop-at
invariant-loop-at l = (found : Findings) → AreFindings (size_of l.heap) (facts_of l.heap) found
    → row_line found l.elem l.bytes l.count l.fn.place
    ≡ string_bytes l.line ++ flat_map (number_text found l.elem l.bytes) (range_with_len l.at (l.at-end - l.at)) ++ codes "\n"
