use Rattle.std.specs.Prelude.{map, string_bytes, take}
use Rattle.std.specs.List.{flat_map}
use Rattle.std.proofs.Common.{◌≡◌, ◌++◌}
use Rattle.hprof_suspects.specs.LabelSums.{sum_of}
use Rattle.hprof_suspects.specs.SuspectsText.{piece_line}
use Rattle.hprof_suspects.proofs.report.push_sums.Given as goal

-- the lines so far
abbrev pub invariant-loop-line : goal.invariant-loop-line
invariant-loop-line l =
    string_bytes l.text ≡ string_bytes l.fn.text ++ flat_map piece_line (map (sum_of l.labels) (take l.line-index l.lines))
