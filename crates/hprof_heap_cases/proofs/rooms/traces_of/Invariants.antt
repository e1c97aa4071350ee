use Rattle.std.proofs.Common.{◌≡◌, Some}
use Rattle.hprof_heap.specs.Gathering.{gathered}
use Rattle.hprof_heap_cases.proofs.rooms.traces_of.Given as goal

abbrev pub invariant-loop-serial : goal.invariant-loop-serial
invariant-loop-serial g l = (gathered l.gatherer).begun ≡ Some l.ids
