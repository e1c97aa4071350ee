use Rattle.std.proofs.Common.{◌++◌, ℕ, List, length}
use Rattle.hprof_objects.specs.DividedCuts.{AreDivided}
use Rattle.hprof_objects.proofs.dividing.divide.Given as goal

-- lists of the rest go on behind those that were counted
abbrev pub invariant-loop-rest : goal.invariant-loop-rest
invariant-loop-rest l = (more : List ℕ) → AreDivided l.rest more → AreDivided l.cuts (l.counts.items ++ more)

abbrev pub decreases-loop-rest : goal.decreases-loop-rest
decreases-loop-rest l = length l.rest
