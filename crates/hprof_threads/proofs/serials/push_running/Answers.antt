use Rattle.std.proofs.Common.{ap, ◌∙◌, ◌++◌}
use Rattle.std.specs.List.{flat_map}
use Rattle.hprof_items.specs.FactValue.{value_of}
use Rattle.hprof_rows.specs.declared.facts.Facts.{Facts}
use Rattle.hprof_rows.specs.declared.table.Table.TheVariants as tables
use Rattle.hprof_rows.specs.FactsLeft.{facts_left}
use Rattle.hprof_rows.specs.Tables.{facts_of_table}
use Rattle.hprof_heap.specs.HeapFacts.{facts_of}
use Rattle.hprof_threads.specs.Serials.{serials_of_start}
use Rattle.hprof_threads.proofs.Gathered.{gathered_all, gathered_more}
use Rattle.hprof_threads.proofs.SerialLists.{start_serials}
use Rattle.hprof_threads.proofs.serials.push_running.Goals as goal

pub loop-fact-init : goal.loop-fact-init
loop-fact-init c =
    let of_start = serials_of_start c.args.ended.now in
    ap (λ (facts : Facts). c.args.serials.now.items ++ flat_map of_start (facts_left facts))
    c.into_iter-fact-iterator.ensures.into_iter_gives
    ∙ ap (λ l. c.args.serials.now.items ++ flat_map of_start l) c.table_facts-fact-items.ensures.all

pub loop-fact-preserved : goal.loop-fact-preserved
loop-fact-preserved c =
    gathered_more (serials_of_start c.args.ended.now) (facts_of_table tables.Starts (facts_of c.args.heap.now))
    (facts_left c.loop-fact.fact-iterator) (facts_left c.next.new.self) c.args.serials.now.items c.loop-fact.serials.items
    c.push_of_start.new.serials.items (value_of c.in-Some.fact) c.in-Some.ensures.steps.0 c.in_ok-push_of_start.ensures
    c.loop-fact.invariant

pub returns : goal.returns
returns c =
    let facts = facts_of c.args.heap.now in
    start_serials facts c.args.ended.now c.requires c.args.serials.now.items c.loop-fact.serials.items
    (gathered_all (serials_of_start c.args.ended.now) (facts_of_table tables.Starts facts) (facts_left c.loop-fact.fact-iterator)
    c.args.serials.now.items c.loop-fact.serials.items c.in-None.ensures.steps.0.0 c.loop-fact.invariant)
