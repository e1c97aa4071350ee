use Rattle.std.proofs.Common.{subst}
use Rattle.hprof_values.specs.declared.ids.IdSize.{IdSize}
use Rattle.hprof_items.specs.FactValue.{value_of}
use Rattle.hprof_rows.specs.declared.table.Table.TheVariants as tables
use Rattle.hprof_rows.specs.FactsLeft.{facts_left}
use Rattle.hprof_rows.specs.Order.{IsCanonicalOrder}
use Rattle.hprof_rows.specs.Tables.{facts_of_table}
use Rattle.hprof_heap.specs.ClassDump.{class_value}
use Rattle.hprof_heap.specs.HeapFacts.{facts_of}
use Rattle.hprof_layouts.specs.Known.{Knows}
use Rattle.hprof_layouts.proofs.TableDumps.{all_came, came_more, came_other}
use Rattle.hprof_layouts.proofs.of_heap.known_layouts.Goals as goal

pub loop-fact-preserved-in-Some-to_class_dump : goal.loop-fact-preserved-in-Some-to_class_dump
loop-fact-preserved-in-Some-to_class_dump c =
    let table = facts_of_table tables.Classes (facts_of c.args.heap.now) in
    let given = c.table_facts-fact-items.ensures in
    came_more c.id_size-ids.result table (facts_left c.loop-fact.fact-iterator) (facts_left c.next.new.self) c.loop-fact.known
    c.add_class.new.self (value_of c.in-Some.fact) c.loop-fact.invariant c.in-Some.ensures.steps.0
    (class_value c.in-Some-to_class_dump.dump)
    c.in-Some-to_class_dump.ensures.found (subst IsCanonicalOrder given.all given.ordered) c.in_ok-add_class.ensures.ok

pub loop-fact-preserved : goal.loop-fact-preserved
loop-fact-preserved c =
    let table = facts_of_table tables.Classes (facts_of c.args.heap.now) in
    came_other c.id_size-ids.result table (facts_left c.loop-fact.fact-iterator) (facts_left c.next.new.self) c.loop-fact.known
    c.loop-fact.known (value_of c.in-Some.fact) c.loop-fact.invariant c.in-Some.ensures.steps.0 c.in_default.ensures.none

pub returns : goal.returns
returns c =
    let facts = facts_of c.args.heap.now in
    subst (λ (ids : IdSize). Knows ids facts c.loop-fact.known) c.id_size-ids.ensures.value
    (all_came c.id_size-ids.result facts (facts_left c.loop-fact.fact-iterator) c.loop-fact.known c.loop-fact.invariant
    c.in-None.ensures.steps.0.0)
