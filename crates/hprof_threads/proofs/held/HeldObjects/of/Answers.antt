use Rattle.std.proofs.Common.{[], ap, ◌∙◌, ◌++◌}
use Rattle.std.specs.List.{flat_map}
use Rattle.hprof_items.specs.FactValue.{value_of}
use Rattle.hprof_rows.specs.declared.facts.Facts.{Facts}
use Rattle.hprof_rows.specs.declared.table.Table.TheVariants as tables
use Rattle.hprof_rows.specs.FactsLeft.{facts_left}
use Rattle.hprof_rows.specs.Tables.{facts_of_table}
use Rattle.hprof_heap.specs.HeapFacts.{facts_of}
use Rattle.hprof_threads.specs.Held.{held_in}
use Rattle.hprof_threads.proofs.Gathered.{gathered_all, gathered_more}
use Rattle.hprof_threads.proofs.HeldRows.{gathered_held, sorted_held}
use Rattle.hprof_threads.proofs.held.HeldObjects.of.Goals as goal

pub loop-fact-init : goal.loop-fact-init
loop-fact-init c =
    ap (λ rows. rows ++ flat_map held_in (facts_left c.into_iter-fact-iterator.result)) c.new-rows.ensures.items
    ∙ ap (λ (facts : Facts). flat_map held_in (facts_left facts)) c.into_iter-fact-iterator.ensures.into_iter_gives
    ∙ ap (flat_map held_in) c.table_facts-fact-items.ensures.all

pub loop-fact-preserved : goal.loop-fact-preserved
loop-fact-preserved c =
    gathered_more held_in (facts_of_table tables.Roots (facts_of c.args.heap.now)) (facts_left c.loop-fact.fact-iterator)
    (facts_left c.next.new.self) [] c.loop-fact.rows.items c.push_held.new.rows.items (value_of c.in-Some.fact) c.in-Some.ensures.steps.0
    c.in_ok-push_held.ensures c.loop-fact.invariant

pub returns : goal.returns
returns c =
    let facts = facts_of c.args.heap.now in
    let all = gathered_all held_in (facts_of_table tables.Roots facts) (facts_left c.loop-fact.fact-iterator) [] c.loop-fact.rows.items
    c.in-None.ensures.steps.0.0 c.loop-fact.invariant in
    sorted_held facts c.loop-fact.rows.items c.sort_held.new.rows.items (gathered_held facts c.loop-fact.rows.items all)
    c.sort_held.ensures.ascend c.sort_held.ensures.same
