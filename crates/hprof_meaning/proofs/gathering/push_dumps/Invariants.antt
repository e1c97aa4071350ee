use Rattle.hprof_rows.specs.declared.table.Table.TheVariants as tables
use Rattle.hprof_rows.specs.FactsLeft.{facts_left}
use Rattle.hprof_rows.specs.Tables.{facts_of_table}
use Rattle.hprof_heap.specs.HeapFacts.{facts_of}
use Rattle.hprof_threads.proofs.Gathered.{AreGathered}
use Rattle.hprof_meaning.specs.Stated.{class_dumped}
use Rattle.hprof_meaning.proofs.gathering.push_dumps.Given as goal

abbrev pub invariant-loop-fact : goal.invariant-loop-fact
invariant-loop-fact l =
    AreGathered class_dumped (facts_of_table tables.Classes (facts_of l.heap)) l.fn.classes.items l.classes.items
    (facts_left l.fact-iterator)
