use Rattle.std.proofs.Common.{◌≡◌, length}
use Rattle.hprof_devices.specs.declared.health.Health.TheVariants.{Well}
use Rattle.hprof_devices.proofs.Writes.{Pushed}
use Rattle.hprof_heap.specs.HeapFacts.{facts_of}
use Rattle.hprof_naming.specs.Naming.{Naming, IsNaming}
use Rattle.hprof_reports.specs.HistogramText.{rows_text}
use Rattle.hprof_reports.proofs.histogram_report.write_rows.Given as goal

abbrev pub invariant-loop-row : goal.invariant-loop-row
invariant-loop-row g l = record {
  pushed : (naming : Naming) → IsNaming (facts_of l.heap) naming
      → Pushed (g.W.Target.written l.fn.target) (g.W.Target.written l.target) (rows_text naming l.rows) (rows_text naming l.rest);
  well : g.W.Target.health l.target ≡ Well;
}

abbrev pub decreases-loop-row : goal.decreases-loop-row
decreases-loop-row g l = length l.rest
