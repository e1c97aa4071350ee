use Rattle.std.proofs.Common.{◌+◌, ◌-◌, length}
use Rattle.hprof_heap.specs.HeapFacts.{facts_of}
use Rattle.hprof_layouts.specs.WaitingLists.{number_in, waiting_for}
use Rattle.hprof_weak.specs.Strengths.{IsStanding, strengths_in}
use Rattle.hprof_weak.proofs.strengths.strengths_of.Given as goal

abbrev pub invariant-loop-place : goal.invariant-loop-place
invariant-loop-place l = IsStanding (facts_of l.heap) l.strengths (waiting_for l.subclasses) l.place

abbrev pub decreases-loop-place : goal.decreases-loop-place
decreases-loop-place l = number_in l.subclasses + length (strengths_in l.strengths) - l.place
