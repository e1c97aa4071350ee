use Rattle.hprof_rows.specs.declared.table.Table.TheVariants as tables
use Rattle.hprof_rows.specs.FactsLeft.{facts_left}
use Rattle.hprof_rows.specs.Tables.{facts_of_table}
use Rattle.hprof_heap.specs.HeapFacts.{facts_of}
use Rattle.hprof_threads.specs.Serials.{serials_of_root}
use Rattle.hprof_threads.proofs.Gathered.{AreGathered}
use Rattle.hprof_threads.proofs.serials.push_of_roots.Given as goal

abbrev pub invariant-loop-fact : goal.invariant-loop-fact
invariant-loop-fact l =
    AreGathered serials_of_root (facts_of_table tables.Roots (facts_of l.heap)) l.fn.serials.items l.serials.items
    (facts_left l.fact-iterator)
