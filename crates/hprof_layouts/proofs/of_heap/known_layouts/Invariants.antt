use Rattle.hprof_rows.specs.declared.table.Table.TheVariants as tables
use Rattle.hprof_rows.specs.FactsLeft.{facts_left}
use Rattle.hprof_rows.specs.Tables.{facts_of_table}
use Rattle.hprof_heap.specs.HeapFacts.{facts_of}
use Rattle.hprof_layouts.proofs.TableDumps.{Coming}
use Rattle.hprof_layouts.proofs.of_heap.known_layouts.Given as goal

abbrev pub invariant-loop-fact : goal.invariant-loop-fact
invariant-loop-fact l = Coming l.ids (facts_of_table tables.Classes (facts_of l.heap)) (facts_left l.fact-iterator) l.known
