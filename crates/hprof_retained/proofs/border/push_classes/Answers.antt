use Rattle.std.proofs.Common.{sym, ap, subst, ◌∙◌}
use Rattle.hprof_items.specs.FactValue.{value_of}
use Rattle.hprof_rows.specs.declared.table.Table.TheVariants as tables
use Rattle.hprof_rows.specs.FactsLeft.{facts_left}
use Rattle.hprof_rows.specs.Tables.{facts_of_table}
use Rattle.hprof_heap.specs.ClassDump.{class_value}
use Rattle.hprof_heap.specs.HeapFacts.{facts_of}
use Rattle.hprof_reach.proofs.TableNodes.{gives_class, gone_over_all, gone_over_none, gone_over_one, gone_over_other, no_dump_no_class}
use Rattle.hprof_reach.proofs.TableNodes.{GoneOver, IsGiven, same_given}
use Rattle.hprof_retained.proofs.BorderLists.{GivesOther, other_classes}
use Rattle.hprof_retained.proofs.border.push_classes.Goals as goal

pub loop-fact-init : goal.loop-fact-init
loop-fact-init c =
    let others = c.args.others.now.items in
    let table = facts_of_table tables.Classes (facts_of c.args.heap.now) in
    subst (GoneOver (GivesOther c.args.retained.now) others others table)
    (sym (ap facts_left c.into_iter-fact-iterator.ensures.into_iter_gives ∙ c.table_facts-fact-items.ensures.all))
    (gone_over_none (GivesOther c.args.retained.now) others table)

pub loop-fact-preserved-in-Continue-1 : goal.loop-fact-preserved-in-Continue-1
loop-fact-preserved-in-Continue-1 c =
    let retained = c.args.retained.now in
    let fact = value_of c.in-Some.fact in
    let after = c.push_other.new.others.items in
    gone_over_one (GivesOther retained) c.args.others.now.items c.loop-fact.others.items after
    (facts_of_table tables.Classes (facts_of c.args.heap.now)) (facts_left c.loop-fact.fact-iterator) (facts_left c.next.new.self) fact
    c.loop-fact.invariant c.in-Some.ensures.steps.0
    (same_given _ (GivesOther retained fact) c.loop-fact.others.items after
    (λ id.
    let is = gives_class (class_value c.in-Some-to_class_dump.dump) fact c.in-Some-to_class_dump.ensures.found id in
    (λ all. (is.1 all.0, all.1), λ gives. (is.0 gives.0, gives.1)))
    c.in_ok-push_other.ensures)

pub loop-fact-preserved : goal.loop-fact-preserved
loop-fact-preserved c =
    let fact = value_of c.in-Some.fact in
    gone_over_other (GivesOther c.args.retained.now) c.args.others.now.items c.loop-fact.others.items
    (facts_of_table tables.Classes (facts_of c.args.heap.now)) (facts_left c.loop-fact.fact-iterator) (facts_left c.next.new.self) fact
    c.loop-fact.invariant c.in-Some.ensures.steps.0 (λ id gives. no_dump_no_class fact c.in_default.ensures.none id gives.0)

pub returns : goal.returns
returns c =
    let facts = facts_of c.args.heap.now in
    let retained = c.args.retained.now in
    let table = facts_of_table tables.Classes facts in
    same_given (IsGiven (GivesOther retained) table) _ c.args.others.now.items c.loop-fact.others.items (other_classes retained facts)
    (gone_over_all (GivesOther retained) c.args.others.now.items c.loop-fact.others.items table (facts_left c.loop-fact.fact-iterator)
    c.loop-fact.invariant c.in-None.ensures.steps.0.0)
