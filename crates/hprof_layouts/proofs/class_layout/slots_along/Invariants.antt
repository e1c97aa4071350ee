use Rattle.std.proofs.Common.{◌-◌}
use Rattle.hprof_heap.specs.HeapFacts.{facts_of}
use Rattle.hprof_layouts.proofs.Walks.{Gathering}
use Rattle.hprof_layouts.proofs.class_layout.slots_along.Given as goal

abbrev pub invariant-loop-passed : goal.invariant-loop-passed
invariant-loop-passed l = Gathering (facts_of l.fn.heap) l.fn.class l.at (l.count - l._passed) l.slots.items
