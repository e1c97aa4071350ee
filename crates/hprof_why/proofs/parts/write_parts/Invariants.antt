use Rattle.std.proofs.Common.{◌≡◌, ℕ, List, length}
use Rattle.hprof_devices.specs.declared.health.Health.TheVariants.{Well}
use Rattle.hprof_devices.proofs.Writes.{Pushed}
use Rattle.hprof_heap.specs.HeapFacts.{facts_of, size_of}
use Rattle.hprof_reports.specs.Skipped.{AreSkips}
use Rattle.hprof_why.specs.WhyText.{ArePathFindings, PathFindings}
use Rattle.hprof_why.specs.Walks.{IsPartsTextOf}
use Rattle.hprof_why.proofs.parts.write_parts.Given as goal

abbrev pub invariant-loop-to : goal.invariant-loop-to
invariant-loop-to g l = record {
  pushed : (found : PathFindings) (text : List ℕ) → ArePathFindings (size_of l.view.heap.now) (facts_of l.view.heap.now) found
      → IsPartsTextOf l.view l.left_out found l.first l.nodes text
      → (left : List ℕ) × IsPartsTextOf l.view l.left_out found l.place.node l.place.rest.now left
      × Pushed (g.W.Target.written l.fn.target) (g.W.Target.written l.target) text left;
  skips : AreSkips (facts_of l.view.heap.now) l.walk.names;
  well : g.W.Target.health l.target ≡ Well;
}

abbrev pub decreases-loop-to : goal.decreases-loop-to
decreases-loop-to g l = length l.place.rest.now
