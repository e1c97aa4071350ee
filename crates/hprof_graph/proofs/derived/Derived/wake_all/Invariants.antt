use Rattle.std.proofs.Common.{◌≡◌, ℕ, List, take, Contains}
use Rattle.hprof_heap.specs.HeapFacts.{facts_of, size_of}
use Rattle.hprof_layouts.specs.Known.{HasLayout}
use Rattle.hprof_graph.specs.Derived.{HasLaid, IsDeriving, keeps_of}
use Rattle.hprof_graph.proofs.derived.Derived.wake_all.Given as goal

abbrev pub invariant-loop-class : goal.invariant-loop-class
invariant-loop-class l = record {
  keeps : keeps_of l.self ≡ keeps_of l.fn.self;
  lays : (before : List ℕ) → ((class : ℕ) → Contains l.woken class → HasLayout (facts_of l.heap) class)
      → IsDeriving (size_of l.heap) (facts_of l.heap) l.fn.self before before
      → HasLaid (size_of l.heap) (facts_of l.heap) l.self before (take l.class-index l.woken);
}
