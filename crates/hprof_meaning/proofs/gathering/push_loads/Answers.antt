use Rattle.std.proofs.Common.{ap, ◌∙◌, ◌++◌}
use Rattle.std.specs.List.{flat_map}
use Rattle.hprof_items.specs.FactValue.{value_of}
use Rattle.hprof_rows.specs.declared.facts.Facts.{Facts}
use Rattle.hprof_rows.specs.declared.table.Table.TheVariants as tables
use Rattle.hprof_rows.specs.FactsLeft.{facts_left}
use Rattle.hprof_rows.specs.Tables.{facts_of_table}
use Rattle.hprof_heap.specs.HeapFacts.{facts_of}
use Rattle.hprof_threads.proofs.Gathered.{gathered_all, gathered_more}
use Rattle.hprof_meaning.specs.Stated.{class_loaded}
use Rattle.hprof_meaning.proofs.gathering.push_loads.Goals as goal

pub loop-fact-init : goal.loop-fact-init
loop-fact-init c =
    ap (λ (facts : Facts). c.args.classes.now.items ++ flat_map class_loaded (facts_left facts))
    c.into_iter-fact-iterator.ensures.into_iter_gives
    ∙ ap (λ l. c.args.classes.now.items ++ flat_map class_loaded l) c.table_facts-fact-items.ensures.all

pub loop-fact-preserved : goal.loop-fact-preserved
loop-fact-preserved c =
    gathered_more class_loaded (facts_of_table tables.Loads (facts_of c.args.heap.now)) (facts_left c.loop-fact.fact-iterator)
    (facts_left c.next.new.self) c.args.classes.now.items c.loop-fact.classes.items c.push_loaded.new.classes.items
    (value_of c.in-Some.fact) c.in-Some.ensures.steps.0 c.in_ok-push_loaded.ensures c.loop-fact.invariant

pub returns : goal.returns
returns c =
    gathered_all class_loaded (facts_of_table tables.Loads (facts_of c.args.heap.now)) (facts_left c.loop-fact.fact-iterator)
    c.args.classes.now.items c.loop-fact.classes.items c.in-None.ensures.steps.0.0 c.loop-fact.invariant
