use Rattle.std.proofs.Common.{[]}
use Rattle.hprof_rows.specs.declared.table.Table.TheVariants as tables
use Rattle.hprof_rows.specs.FactsLeft.{facts_left}
use Rattle.hprof_rows.specs.Tables.{facts_of_table}
use Rattle.hprof_heap.specs.HeapFacts.{facts_of}
use Rattle.hprof_threads.specs.Held.{held_in}
use Rattle.hprof_threads.proofs.Gathered.{AreGathered}
use Rattle.hprof_threads.proofs.held.HeldObjects.of.Given as goal

abbrev pub invariant-loop-fact : goal.invariant-loop-fact
invariant-loop-fact l =
    AreGathered held_in (facts_of_table tables.Roots (facts_of l.heap)) [] l.rows.items (facts_left l.fact-iterator)
