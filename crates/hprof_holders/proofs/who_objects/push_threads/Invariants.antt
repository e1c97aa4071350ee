use Rattle.std.specs.Prelude.{◌⊎◌}
use Rattle.std.proofs.Common.{◌≡◌, ℕ, List, ◌++◌, length}
use Rattle.hprof_values.specs.declared.root.Root.{Root}
use Rattle.hprof_heap.specs.HeapFacts.{facts_of}
use Rattle.hprof_histogram.proofs.Members.{IsIn}
use Rattle.hprof_holders.specs.WhoObjects.{HasThreadOf}
use Rattle.hprof_holders.proofs.who_objects.push_threads.Given as goal

abbrev pub invariant-loop-root : goal.invariant-loop-root
invariant-loop-root l = ((more : List ℕ) × (l.nodes.items ≡ l.fn.nodes.items ++ more))
    × ((root : Root) → IsIn root l.roots → IsIn root l.rest ⊎ HasThreadOf (facts_of l.heap) l.nodes.items root)

abbrev pub decreases-loop-root : goal.decreases-loop-root
decreases-loop-root l = length l.rest
