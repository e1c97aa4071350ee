use Rattle.std.proofs.Common.{drop}
use Rattle.hprof_values.proofs.NumberWriting.{Put}
use Rattle.hprof_values.proofs.number_writing.put_numbers.Given as goal

abbrev pub invariant-loop-number : goal.invariant-loop-number
invariant-loop-number l = Put l.ids l.numbers (drop l.number-index l.numbers) l.fn.out l.out l.end
