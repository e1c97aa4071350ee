use Rattle.std.proofs.Common.{◌≡◌, ◌++◌, replicate}
use Rattle.hprof_naming.proofs.meant_label.behind_brackets.Given as goal

abbrev pub invariant-loop : goal.invariant-loop
invariant-loop l = l.label ≡ replicate l.counter 91 ++ l.rest
