use Rattle.std.proofs.Common.{◌≡◌, List, drop, length}
use Rattle.hprof_devices.specs.declared.health.Health.TheVariants.{Well}
use Rattle.hprof_devices.proofs.OneByOne.{Wrote}
use Rattle.hprof_items.specs.FactValue.{FactValue}
use Rattle.hprof_heap.specs.HeapFacts.{facts_of, size_of}
use Rattle.hprof_passes.specs.Passing.{IsWhole, objects_among}
use Rattle.hprof_reports.specs.Check.{all_tables, table_line}
use Rattle.hprof_reports.proofs.check.write_tables.Given as goal

abbrev pub invariant-loop-table : goal.invariant-loop-table
invariant-loop-table g l = record {
  wrote : (all : List FactValue) → IsWhole (size_of l.heap) (facts_of l.heap) all → l.objects ≡ length (objects_among all)
      → Wrote (table_line all) (g.W.Target.written l.fn.target) (g.W.Target.written l.target) all_tables (drop l.table-index all_tables);
  well : g.W.Target.health l.target ≡ Well;
}
