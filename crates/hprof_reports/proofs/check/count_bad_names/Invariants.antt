use Rattle.std.proofs.Common.{◌≤◌, ◌+◌, length}
use Rattle.hprof_rows.specs.declared.table.Table.TheVariants as tables
use Rattle.hprof_rows.specs.FactsLeft.{facts_left}
use Rattle.hprof_rows.specs.Tables.{facts_of_table}
use Rattle.hprof_heap.specs.HeapFacts.{facts_of}
use Rattle.hprof_reports.specs.Check.{IsBadName}
use Rattle.hprof_reports.proofs.Counts.{IsCountedTo}
use Rattle.hprof_reports.proofs.check.count_bad_names.Given as goal

abbrev pub invariant-loop-fact : goal.invariant-loop-fact
invariant-loop-fact l = record {
  counted : IsCountedTo IsBadName (facts_of_table tables.Names (facts_of l.heap)) l.bad (facts_left l.fact-iterator);
  bound : l.bad + length (facts_left l.fact-iterator) ≤ l.names;
}
