use Rattle.std.proofs.Common.{drop}
use Rattle.hprof_values.proofs.NumberWriting.{FitSoFar}
use Rattle.hprof_values.proofs.number_writing.numbers_fit.Given as goal

abbrev pub invariant-loop-number : goal.invariant-loop-number
invariant-loop-number l = FitSoFar l.ids l.numbers (drop l.number-index l.numbers)
