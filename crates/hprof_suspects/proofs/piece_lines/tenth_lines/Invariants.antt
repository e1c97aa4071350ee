use Rattle.hprof_suspects.specs.LabelSums.{AreLinesTo}
use Rattle.hprof_suspects.proofs.piece_lines.tenth_lines.Given as goal

-- the lines of the labels so far
abbrev pub invariant-loop-label : goal.invariant-loop-label
invariant-loop-label l = AreLinesTo l.sums.bytes.items l.sums.counts.items l.pieces l.label l.lines.items
