use Rattle.std.proofs.Common.{◌≡◌, Some}
use Rattle.hprof_heap.specs.Gathering.{gathered}
use Rattle.hprof_heap_cases.proofs.rooms.roots_from.Given as goal

abbrev pub invariant-loop-number : goal.invariant-loop-number
invariant-loop-number g l = (gathered l.gatherer).begun ≡ Some l.ids
