use Rattle.std.proofs.Common.{sym, ap, ◌∙◌}
use Rattle.hprof_items.specs.FactValue.{value_of}
use Rattle.hprof_rows.specs.declared.table.Table.TheVariants as tables
use Rattle.hprof_rows.specs.FactsLeft.{facts_left}
use Rattle.hprof_rows.specs.Tables.{facts_of_table}
use Rattle.hprof_heap.specs.Classes.{ClassValue}
use Rattle.hprof_heap.specs.ClassDump.{class_value}
use Rattle.hprof_heap.specs.HeapFacts.{facts_of}
use Rattle.hprof_heap.proofs.ClassFacts.{dump_in}
use Rattle.hprof_layouts.specs.WaitingLists.{waiting_for}
use Rattle.hprof_weak.proofs.SubclassLists.{subclasses_of_all, subclasses_of_more, subclasses_of_none, subclasses_of_same}
use Rattle.hprof_weak.proofs.subclasses.subclasses_of.Goals as goal

pub loop-fact-init : goal.loop-fact-init
loop-fact-init c =
    rw c.into_iter-fact-iterator.ensures.into_iter_gives
    (subclasses_of_none (facts_of_table tables.Classes (facts_of c.args.heap.now)) (facts_left c.table_facts-fact-items.result)
    (waiting_for c.new-lists.result) c.table_facts-fact-items.ensures.all c.new-lists.ensures)

pub loop-fact-preserved-in-Continue-1 : goal.loop-fact-preserved-in-Continue-1
loop-fact-preserved-in-Continue-1 c =
    subclasses_of_more (facts_of_table tables.Classes (facts_of c.args.heap.now)) (facts_left c.loop-fact.fact-iterator)
    (facts_left c.next.new.self) (waiting_for c.loop-fact.lists) (value_of c.in-Some.fact) c.in-Some.ensures.steps.0
    c.loop-fact.invariant (waiting_for c.add.new.self) (class_value c.in-Some-to_class_dump.dump)
    c.in-Some-to_class_dump.ensures.found c.if-dump-ne0.true c.in_ok-add.ensures

pub loop-fact-preserved-else-dump-ne0 : goal.loop-fact-preserved-else-dump-ne0
loop-fact-preserved-else-dump-ne0 c =
    subclasses_of_same (facts_of_table tables.Classes (facts_of c.args.heap.now)) (facts_left c.loop-fact.fact-iterator)
    (facts_left c.next.new.self) (waiting_for c.loop-fact.lists) (value_of c.in-Some.fact) c.in-Some.ensures.steps.0
    c.loop-fact.invariant (λ dump not_zero is.
    let same = ap dump_in (is ∙ sym c.in-Some-to_class_dump.ensures.found) in
    not_zero (ap (λ (d : ClassValue). d.id) same ∙ c.if-dump-ne0.false))

pub loop-fact-preserved : goal.loop-fact-preserved
loop-fact-preserved c =
    subclasses_of_same (facts_of_table tables.Classes (facts_of c.args.heap.now)) (facts_left c.loop-fact.fact-iterator)
    (facts_left c.next.new.self) (waiting_for c.loop-fact.lists) (value_of c.in-Some.fact) c.in-Some.ensures.steps.0
    c.loop-fact.invariant (λ dump not_zero is. c.in_default.ensures.none dump is)

pub returns : goal.returns
returns c =
    subclasses_of_all (facts_of c.args.heap.now) (facts_left c.loop-fact.fact-iterator) (waiting_for c.loop-fact.lists)
    c.in-None.ensures.steps.0.0 c.loop-fact.invariant
