use Rattle.std.proofs.Common.{length}
use Rattle.hprof_text.proofs.Prints.{PrintsFront}
use Rattle.hprof_text.proofs.printing.push_units.Given as goal

abbrev pub invariant-loop-unit : goal.invariant-loop-unit
invariant-loop-unit l = PrintsFront l.bytes l.rest l.text.items

abbrev pub decreases-loop-unit : goal.decreases-loop-unit
decreases-loop-unit l = length l.rest
