use Rattle.std.proofs.Common.{[]}
use Rattle.hprof_rows.specs.declared.table.Table.TheVariants as tables
use Rattle.hprof_rows.specs.FactsLeft.{facts_left}
use Rattle.hprof_rows.specs.Tables.{facts_of_table}
use Rattle.hprof_heap.specs.HeapFacts.{facts_of}
use Rattle.hprof_reach.proofs.TableNodes.{GoneOver}
use Rattle.hprof_keeps.proofs.ClassIds.{GivesDump}
use Rattle.hprof_keeps.proofs.chosen_over.class_ids.Given as goal

abbrev pub invariant-loop-fact : goal.invariant-loop-fact
invariant-loop-fact l = GoneOver GivesDump [] l.ids.items (facts_of_table tables.Classes (facts_of l.heap)) (facts_left l.fact-iterator)
