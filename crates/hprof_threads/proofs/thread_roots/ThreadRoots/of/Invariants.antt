use Rattle.hprof_rows.specs.declared.table.Table.TheVariants as tables
use Rattle.hprof_rows.specs.FactsLeft.{facts_left}
use Rattle.hprof_rows.specs.Tables.{facts_of_table}
use Rattle.hprof_heap.specs.HeapFacts.{facts_of}
use Rattle.hprof_threads.proofs.FirstRoots.{AreRootsSoFar}
use Rattle.hprof_threads.proofs.thread_roots.ThreadRoots.of.Given as goal

abbrev pub invariant-loop-fact : goal.invariant-loop-fact
invariant-loop-fact l = AreRootsSoFar (facts_of_table tables.Roots (facts_of l.heap)) l.roots (facts_left l.fact-iterator)
