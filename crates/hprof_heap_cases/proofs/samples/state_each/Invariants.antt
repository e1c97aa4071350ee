use Rattle.std.proofs.Common.{◌≡◌, Some}
use Rattle.hprof_heap.specs.Gathering.{gathered}
use Rattle.hprof_heap_cases.proofs.samples.state_each.Given as goal

abbrev pub invariant-loop-fact : goal.invariant-loop-fact
invariant-loop-fact g l = (gathered l.gatherer).begun ≡ Some l.ids
