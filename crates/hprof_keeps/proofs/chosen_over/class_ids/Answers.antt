use Rattle.std.proofs.Common.{ℕ, List, [], sym, ap, subst, ◌∙◌}
use Rattle.hprof_items.specs.FactValue.{value_of}
use Rattle.hprof_rows.specs.declared.table.Table.TheVariants as tables
use Rattle.hprof_rows.specs.FactsLeft.{facts_left}
use Rattle.hprof_rows.specs.Tables.{facts_of_table}
use Rattle.hprof_heap.specs.ClassDump.{class_value}
use Rattle.hprof_heap.specs.HeapFacts.{facts_of}
use Rattle.hprof_reach.proofs.TableNodes.{GoneOver, gone_over_none, gone_over_one, gone_over_other}
use Rattle.hprof_keeps.proofs.ClassIds.{GivesDump, dump_pushed, dumps_there}
use Rattle.hprof_keeps.proofs.chosen_over.class_ids.Goals as goal

pub loop-fact-init : goal.loop-fact-init
loop-fact-init c =
    let table = facts_of_table tables.Classes (facts_of c.args.heap.now) in
    subst (λ (ids : List ℕ). GoneOver GivesDump [] ids table (facts_left c.into_iter-fact-iterator.result)) (sym c.new-ids.ensures.items)
    (subst (GoneOver GivesDump [] [] table)
    (sym (ap facts_left c.into_iter-fact-iterator.ensures.into_iter_gives ∙ c.table_facts-fact-items.ensures.all))
    (gone_over_none GivesDump [] table))

pub loop-fact-preserved-in-Continue-1 : goal.loop-fact-preserved-in-Continue-1
loop-fact-preserved-in-Continue-1 c =
    let fact = value_of c.in-Some.fact in
    let after = c.push.new.self.items in
    gone_over_one GivesDump [] c.loop-fact.ids.items after
    (facts_of_table tables.Classes (facts_of c.args.heap.now)) (facts_left c.loop-fact.fact-iterator) (facts_left c.next.new.self) fact
    c.loop-fact.invariant c.in-Some.ensures.steps.0
    (dump_pushed (class_value c.in-Some-to_class_dump.dump) fact c.in-Some-to_class_dump.ensures.found c.loop-fact.ids.items after
    c.in_ok-push.ensures.items)

pub loop-fact-preserved : goal.loop-fact-preserved
loop-fact-preserved c =
    let fact = value_of c.in-Some.fact in
    gone_over_other GivesDump [] c.loop-fact.ids.items
    (facts_of_table tables.Classes (facts_of c.args.heap.now)) (facts_left c.loop-fact.fact-iterator) (facts_left c.next.new.self) fact
    c.loop-fact.invariant c.in-Some.ensures.steps.0 (λ id gives. c.in_default.ensures.none gives.dump gives.is)

pub returns-clause-has : goal.returns-clause-has
returns-clause-has c =
    dumps_there (facts_of c.args.heap.now) (facts_left c.loop-fact.fact-iterator) [] c.loop-fact.ids.items c.sort_once.new.nodes.items
    c.loop-fact.invariant c.in-None.ensures.steps.0.0 c.in_ok-sort_once.ensures.same
