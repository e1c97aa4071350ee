use Rattle.hprof_rows.specs.declared.table.Table.TheVariants as tables
use Rattle.hprof_rows.specs.FactsLeft.{facts_left}
use Rattle.hprof_rows.specs.Tables.{facts_of_table}
use Rattle.hprof_heap.specs.HeapFacts.{facts_of}
use Rattle.hprof_layouts.specs.WaitingLists.{waiting_for}
use Rattle.hprof_weak.proofs.SubclassLists.{SubclassesSoFar}
use Rattle.hprof_weak.proofs.subclasses.subclasses_of.Given as goal

abbrev pub invariant-loop-fact : goal.invariant-loop-fact
invariant-loop-fact l = SubclassesSoFar (facts_of_table tables.Classes (facts_of l.heap)) (waiting_for l.lists) (facts_left l.fact-iterator)
