use Rattle.std.proofs.Common.{length, refl, arith}
use Rattle.hprof_rows.specs.declared.table.Table.TheVariants as tables
use Rattle.hprof_rows.specs.Tables.{facts_of_table}
use Rattle.hprof_heap.specs.HeapFacts.{facts_of, size_of}
use Rattle.hprof_graph.proofs.Counted.{number_waiting}
use Rattle.hprof_graph.proofs.derived.Derived.unresolved.Goals as goal

pub returns : goal.returns
returns c = λ is.
    let few = c.holds_of_heap.ensures.few in
    let objects = length (facts_of_table tables.Objects (facts_of c.args.heap.now)) in
    number_waiting (size_of c.args.heap.now) (facts_of c.args.heap.now) c.args.self.now is objects refl (omega (arith, few))
    c.saturating_sub.result c.saturating_sub.ensures
