use Rattle.std.specs.Vec.Iter.{into_iter_items}
use Rattle.std.proofs.Common.{◌≡◌, ℕ, List}
use Rattle.hprof_heap.specs.HeapFacts.{facts_of, size_of}
use Rattle.hprof_layouts.specs.Known.{HasLayout}
use Rattle.hprof_layouts.specs.WaitingLists.{waiting_for}
use Rattle.hprof_graph.specs.Derived.{IsDeriving, keeps_of}
use Rattle.hprof_graph.proofs.WakingInstances.{LaysRest}
use Rattle.hprof_graph.proofs.derived.Derived.wake.Given as goal

abbrev pub invariant-loop-instance : goal.invariant-loop-instance
invariant-loop-instance l = record {
  keeps : keeps_of l.self ≡ keeps_of l.fn.self;
  hand : (before : List ℕ) → HasLayout (facts_of l.heap) l.fn.class → IsDeriving (size_of l.heap) (facts_of l.heap) l.fn.self before before
      → LaysRest (size_of l.heap) (facts_of l.heap) l.self before l.fn.class (waiting_for l.fn.self.waiting l.fn.class)
      (into_iter_items l.instance-iterator);
}
