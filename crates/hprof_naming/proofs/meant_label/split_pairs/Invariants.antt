use Rattle.std.proofs.Common.{◌≡◌, ◌++◌, ◌+◌, ◌*◌, length}
use Rattle.hprof_naming.proofs.Pairs.{bracket_pairs}
use Rattle.hprof_naming.proofs.meant_label.split_pairs.Given as goal

abbrev pub invariant-loop-front : goal.invariant-loop-front
invariant-loop-front l = (l.word ≡ l.text ++ bracket_pairs l.pairs) × (length l.word ≡ length l.text + 2 * l.pairs)

abbrev pub decreases-loop-front : goal.decreases-loop-front
decreases-loop-front l = length l.text
