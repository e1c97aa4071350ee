use Rattle.std.proofs.Common.{length}
use Rattle.hprof_values.proofs.Counting.{Counted}
use Rattle.hprof_values.proofs.entries.count_entries.Given as goal

abbrev pub invariant-loop-rest : goal.invariant-loop-rest
invariant-loop-rest l = Counted l.ids l.kind l.count l.bytes l.rest

abbrev pub decreases-loop-rest : goal.decreases-loop-rest
decreases-loop-rest l = length l.rest
