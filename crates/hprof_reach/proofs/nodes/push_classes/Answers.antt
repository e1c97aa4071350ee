use Rattle.std.proofs.Common.{sym, ap, subst, ◌∙◌}
use Rattle.hprof_items.specs.FactValue.{value_of}
use Rattle.hprof_rows.specs.declared.table.Table.TheVariants as tables
use Rattle.hprof_rows.specs.FactsLeft.{facts_left}
use Rattle.hprof_rows.specs.Tables.{facts_of_table}
use Rattle.hprof_heap.specs.ClassDump.{class_value}
use Rattle.hprof_heap.specs.HeapFacts.{facts_of}
use Rattle.hprof_reach.specs.Nodes.{IsClassNode}
use Rattle.hprof_reach.proofs.TableNodes.{GivesClass, GoneOver, IsGiven, class_nodes, gives_class, gone_over_all, gone_over_none}
use Rattle.hprof_reach.proofs.TableNodes.{gone_over_one, gone_over_other, no_dump_no_class, same_given}
use Rattle.hprof_reach.proofs.nodes.push_classes.Goals as goal

pub loop-fact-init : goal.loop-fact-init
loop-fact-init c =
    let nodes = c.args.nodes.now.items in
    let table = facts_of_table tables.Classes (facts_of c.args.heap.now) in
    subst (GoneOver GivesClass nodes nodes table)
    (sym (ap facts_left c.into_iter-fact-iterator.ensures.into_iter_gives ∙ c.table_facts-fact-items.ensures.all))
    (gone_over_none GivesClass nodes table)

pub loop-fact-preserved-in-Continue-1 : goal.loop-fact-preserved-in-Continue-1
loop-fact-preserved-in-Continue-1 c =
    let fact = value_of c.in-Some.fact in
    let after = c.push_node.new.nodes.items in
    gone_over_one GivesClass c.args.nodes.now.items c.loop-fact.nodes.items after
    (facts_of_table tables.Classes (facts_of c.args.heap.now)) (facts_left c.loop-fact.fact-iterator) (facts_left c.next.new.self) fact
    c.loop-fact.invariant c.in-Some.ensures.steps.0
    (same_given _ (GivesClass fact) c.loop-fact.nodes.items after
    (λ id. let is = gives_class (class_value c.in-Some-to_class_dump.dump) fact c.in-Some-to_class_dump.ensures.found id in (is.1, is.0))
    c.in_ok-push_node.ensures)

pub loop-fact-preserved : goal.loop-fact-preserved
loop-fact-preserved c =
    let fact = value_of c.in-Some.fact in
    gone_over_other GivesClass c.args.nodes.now.items c.loop-fact.nodes.items
    (facts_of_table tables.Classes (facts_of c.args.heap.now)) (facts_left c.loop-fact.fact-iterator) (facts_left c.next.new.self) fact
    c.loop-fact.invariant c.in-Some.ensures.steps.0 (no_dump_no_class fact c.in_default.ensures.none)

pub returns : goal.returns
returns c =
    let facts = facts_of c.args.heap.now in
    let table = facts_of_table tables.Classes facts in
    same_given (IsGiven GivesClass table) (IsClassNode facts) c.args.nodes.now.items c.loop-fact.nodes.items (class_nodes facts)
    (gone_over_all GivesClass c.args.nodes.now.items c.loop-fact.nodes.items table (facts_left c.loop-fact.fact-iterator)
    c.loop-fact.invariant c.in-None.ensures.steps.0.0)
