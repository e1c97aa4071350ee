use Rattle.std.proofs.Common.{◌-◌}
use Rattle.hprof_heap.specs.HeapFacts.{facts_of}
use Rattle.hprof_reports.specs.Skipped.{AreSkips}
use Rattle.hprof_reports.proofs.Finding.{IsStillAt}
use Rattle.hprof_reports.proofs.field_names.FieldNames.name_at.Given as goal

abbrev pub invariant-loop-passed : goal.invariant-loop-passed
invariant-loop-passed l = record {
  skips : AreSkips (facts_of l.heap) l.fn.self → AreSkips (facts_of l.heap) l.self;
  still : AreSkips (facts_of l.heap) l.fn.self
      → IsStillAt (facts_of l.heap) l.fn.class l.fn.place l.at l.before (l._passed-end - l._passed);
}
