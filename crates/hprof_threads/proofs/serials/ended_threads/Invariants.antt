use Rattle.hprof_rows.specs.declared.table.Table.TheVariants as tables
use Rattle.hprof_rows.specs.FactsLeft.{facts_left}
use Rattle.hprof_rows.specs.Tables.{facts_of_table}
use Rattle.hprof_heap.specs.HeapFacts.{facts_of}
use Rattle.hprof_threads.proofs.SerialLists.{AreEndedTo}
use Rattle.hprof_threads.proofs.serials.ended_threads.Given as goal

abbrev pub invariant-loop-fact : goal.invariant-loop-fact
invariant-loop-fact l = AreEndedTo (facts_of_table tables.Ends (facts_of l.heap)) l.ended (facts_left l.fact-iterator)
