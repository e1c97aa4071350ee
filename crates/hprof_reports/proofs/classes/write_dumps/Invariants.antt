use Rattle.std.proofs.Common.{◌≡◌, List}
use Rattle.hprof_devices.specs.declared.health.Health.TheVariants.{Well}
use Rattle.hprof_devices.proofs.Writes.{Pushed}
use Rattle.hprof_items.specs.FactValue.{FactValue}
use Rattle.hprof_rows.specs.declared.table.Table.TheVariants as tables
use Rattle.hprof_rows.specs.FactsLeft.{facts_left}
use Rattle.hprof_rows.specs.Tables.{facts_of_table}
use Rattle.hprof_heap.specs.HeapFacts.{facts_of, size_of}
use Rattle.hprof_histogram.specs.CountedKinds.{IsTally}
use Rattle.hprof_naming.specs.Naming.{Naming, IsNaming}
use Rattle.hprof_reports.specs.ClassDumps.{dumps_in}
use Rattle.hprof_reports.specs.ClassesText.{classes_text}
use Rattle.hprof_reports.proofs.classes.write_dumps.Given as goal

abbrev pub invariant-loop-fact : goal.invariant-loop-fact
invariant-loop-fact g l = record {
  pushed : (naming : Naming) (all : List FactValue) → IsNaming (facts_of l.heap) naming → IsTally (size_of l.heap) all l.counts
      → Pushed (g.W.Target.written l.fn.target) (g.W.Target.written l.target)
      (classes_text naming (size_of l.heap) all (dumps_in (facts_of_table tables.Classes (facts_of l.heap))))
      (classes_text naming (size_of l.heap) all (dumps_in (facts_left l.fact-iterator)));
  well : g.W.Target.health l.target ≡ Well;
}
