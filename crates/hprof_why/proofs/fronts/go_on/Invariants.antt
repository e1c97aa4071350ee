use Rattle.std.proofs.Common.{◌≡◌, ◌+◌, ◌≤◌, List, length}
use Rattle.hprof_heap.specs.HeapFacts.{facts_of, size_of}
use Rattle.hprof_edges.specs.declared.edge.Edge.{Edge}
use Rattle.hprof_reports.specs.Skipped.{AreSkips}
use Rattle.hprof_why.specs.Folding.{Link}
use Rattle.hprof_why.specs.WhyText.{ArePathFindings, PathFindings}
use Rattle.hprof_why.specs.Walks.{IsGoneOf, step_by}
use Rattle.hprof_why.proofs.fronts.go_on.Given as goal

abbrev pub invariant-loop-to : goal.invariant-loop-to
invariant-loop-to l = record {
  gone : (found : PathFindings) (edge : Edge) (links : List Link)
      → ArePathFindings (size_of l.view.heap.now) (facts_of l.view.heap.now) found
      → l.first ≡ step_by found.edges edge → IsGoneOf l.view l.left_out found l.before edge links l.start
      → IsGoneOf l.view l.left_out found l.before edge links l.run;
  counted : l.run.count + length l.run.behind.rest.now ≡ l.start.count + length l.start.behind.rest.now;
  shorter : length l.run.behind.rest.now ≤ length l.start.behind.rest.now;
  skips : AreSkips (facts_of l.view.heap.now) l.walk.names;
}

abbrev pub decreases-loop-to : goal.decreases-loop-to
decreases-loop-to l = length l.run.behind.rest.now
