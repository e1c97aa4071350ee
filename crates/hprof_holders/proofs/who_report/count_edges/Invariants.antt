use Rattle.std.proofs.Common.{◌+◌, ◌≤◌, ℕ, List, length, map}
use Rattle.std.specs.List.{AllByRecursion}
use Rattle.hprof_heap.specs.HeapFacts.{facts_of, size_of}
use Rattle.hprof_edges.specs.Edges.{IsEdge}
use Rattle.hprof_reports.specs.Skipped.{AreSkips}
use Rattle.hprof_describe.specs.Findings.{AreFindings, Findings}
use Rattle.hprof_holders.specs.Steps.{AreEdgeFindings, EdgeFindings}
use Rattle.hprof_holders.specs.SumCounts.{count_in}
use Rattle.hprof_holders.specs.WhoText.{edge_kind}
use Rattle.hprof_holders.proofs.Counting.{CountedTo}
use Rattle.hprof_holders.proofs.who_report.count_edges.Given as goal

abbrev pub invariant-loop-edge : goal.invariant-loop-edge
invariant-loop-edge l = record {
  counted : (found : Findings) (names : EdgeFindings) → AreFindings (size_of l.view.heap.now) (facts_of l.view.heap.now) found
      → AreEdgeFindings (size_of l.view.heap.now) (facts_of l.view.heap.now) names
      → AllByRecursion (IsEdge (size_of l.view.heap.now) (facts_of l.view.heap.now)) l.edges
      → CountedTo (map (edge_kind found names) l.edges) (map (edge_kind found names) l.rest) l.sums;
  edges : AllByRecursion (IsEdge (size_of l.view.heap.now) (facts_of l.view.heap.now)) l.edges
      → AllByRecursion (IsEdge (size_of l.view.heap.now) (facts_of l.view.heap.now)) l.rest;
  skips : AreSkips (facts_of l.view.heap.now) l.names;
  few : (text : List ℕ) → count_in l.sums text + length l.rest ≤ length l.edges;
}

abbrev pub decreases-loop-edge : goal.decreases-loop-edge
decreases-loop-edge l = length l.rest
