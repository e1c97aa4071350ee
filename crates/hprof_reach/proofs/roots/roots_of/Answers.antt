use Rattle.std.proofs.Common.{ap, subst, ◌∙◌, ◌++◌}
use Rattle.hprof_items.specs.FactValue.{value_of}
use Rattle.hprof_rows.specs.declared.facts.Facts.{Facts}
use Rattle.hprof_rows.specs.declared.table.Table.TheVariants as tables
use Rattle.hprof_rows.specs.FactsLeft.{facts_left}
use Rattle.hprof_rows.specs.Order.{IsCanonicalOrder}
use Rattle.hprof_rows.specs.Tables.{facts_of_table}
use Rattle.hprof_heap.specs.HeapFacts.{facts_of}
use Rattle.hprof_reach.proofs.RootLists.{pick, picked_all, picked_more}
use Rattle.hprof_reach.proofs.roots.roots_of.Goals as goal

pub loop-fact-init : goal.loop-fact-init
loop-fact-init c =
    ap (λ roots. roots ++ pick c.args.id (facts_left c.into_iter-fact-iterator.result)) c.new-roots.ensures.items
    ∙ ap (λ (facts : Facts). pick c.args.id (facts_left facts)) c.into_iter-fact-iterator.ensures.into_iter_gives
    ∙ ap (pick c.args.id) c.table_facts-fact-items.ensures.all

pub loop-fact-preserved : goal.loop-fact-preserved
loop-fact-preserved c =
    picked_more c.args.id (facts_of_table tables.Roots (facts_of c.args.heap.now)) (facts_left c.loop-fact.fact-iterator)
    (facts_left c.next.new.self)
    c.loop-fact.roots.items c.push_root.new.roots.items (value_of c.in-Some.fact) c.in-Some.ensures.steps.0 c.in_ok-push_root.ensures
    c.loop-fact.invariant

pub returns : goal.returns
returns c =
    let facts = facts_of c.args.heap.now in
    picked_all c.args.id facts (facts_left c.loop-fact.fact-iterator) c.loop-fact.roots.items
    (subst IsCanonicalOrder c.table_facts-fact-items.ensures.all c.table_facts-fact-items.ensures.ordered) c.in-None.ensures.steps.0.0
    c.loop-fact.invariant
