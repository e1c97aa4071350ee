use Rattle.std.proofs.Common.{◌≡◌, List, ◌++◌}
use Rattle.hprof_items.specs.FactValue.{FactValue}
use Rattle.hprof_rows.specs.declared.table.Table.TheVariants as tables
use Rattle.hprof_rows.specs.FactsLeft.{facts_left}
use Rattle.hprof_rows.specs.Tables.{facts_of_table}
use Rattle.hprof_heap.specs.HeapFacts.{facts_of}
use Rattle.hprof_naming.proofs.FirstLoads.{AreFirstSoFar}
use Rattle.hprof_naming.proofs.class_names.ClassNames.of.Given as goal

abbrev pub invariant-loop-fact : goal.invariant-loop-fact
invariant-loop-fact l = AreFirstSoFar (facts_of_table tables.Loads (facts_of l.heap)) l.names (facts_left l.fact-iterator)
