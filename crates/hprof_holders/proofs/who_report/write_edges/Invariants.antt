use Rattle.std.proofs.Common.{◌≡◌, length}
use Rattle.std.specs.List.{AllByRecursion, flat_map}
use Rattle.hprof_devices.specs.declared.health.Health.TheVariants.{Well}
use Rattle.hprof_devices.proofs.Writes.{Pushed}
use Rattle.hprof_heap.specs.HeapFacts.{facts_of, size_of}
use Rattle.hprof_edges.specs.Edges.{IsEdge}
use Rattle.hprof_reports.specs.Skipped.{AreSkips}
use Rattle.hprof_describe.specs.Findings.{AreFindings, Findings}
use Rattle.hprof_holders.specs.Steps.{AreEdgeFindings, EdgeFindings}
use Rattle.hprof_holders.specs.WhoText.{edge_line}
use Rattle.hprof_holders.proofs.who_report.write_edges.Given as goal

abbrev pub invariant-loop-edge : goal.invariant-loop-edge
invariant-loop-edge g l = record {
  pushed : (found : Findings) (names : EdgeFindings) → AreFindings (size_of l.view.heap.now) (facts_of l.view.heap.now) found
      → AreEdgeFindings (size_of l.view.heap.now) (facts_of l.view.heap.now) names
      → AllByRecursion (IsEdge (size_of l.view.heap.now) (facts_of l.view.heap.now)) l.edges
      → Pushed (g.W.Target.written l.fn.target) (g.W.Target.written l.target) (flat_map (edge_line found names) l.edges)
      (flat_map (edge_line found names) l.rest);
  edges : AllByRecursion (IsEdge (size_of l.view.heap.now) (facts_of l.view.heap.now)) l.edges
      → AllByRecursion (IsEdge (size_of l.view.heap.now) (facts_of l.view.heap.now)) l.rest;
  skips : AreSkips (facts_of l.view.heap.now) l.names;
  well : g.W.Target.health l.target ≡ Well;
}

abbrev pub decreases-loop-edge : goal.decreases-loop-edge
decreases-loop-edge g l = length l.rest
