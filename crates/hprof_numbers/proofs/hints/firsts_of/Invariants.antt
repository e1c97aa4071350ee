use Rattle.std.proofs.Common.{◌≤◌, length}
use Rattle.hprof_numbers.proofs.hints.firsts_of.Given as goal

abbrev pub invariant-loop-number : goal.invariant-loop-number
invariant-loop-number l = length l.firsts.items ≤ l.parts
