use Rattle.std.specs.Vec.Iter.{into_iter_items}
use Rattle.std.proofs.Common.{◌≡◌, ◌+◌, length}
use Rattle.hprof_heap.specs.HeapFacts.{facts_of}
use Rattle.hprof_layouts.specs.WaitingLists.{number_in, waiting_for}
use Rattle.hprof_weak.specs.Strengths.{strengths_in}
use Rattle.hprof_weak.proofs.Standing.{InHand}
use Rattle.hprof_weak.proofs.strengths.Strengths.add_below.Given as goal

abbrev pub invariant-loop-class : goal.invariant-loop-class
invariant-loop-class l = record {
  hand : InHand (facts_of l.heap) l.self (waiting_for l.subclasses) l.place l.above (into_iter_items l.class-iterator);
  counted : number_in l.subclasses + length (strengths_in l.self) + length (into_iter_items l.class-iterator)
      ≡ number_in l.fn.subclasses + length (strengths_in l.fn.self);
}
