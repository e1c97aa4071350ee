use Rattle.std.proofs.Common.{ap, ◌∙◌}
use Rattle.hprof_items.specs.FactValue.{value_of}
use Rattle.hprof_rows.specs.declared.facts.Facts.{Facts}
use Rattle.hprof_rows.specs.declared.table.Table.TheVariants as tables
use Rattle.hprof_rows.specs.FactsLeft.{facts_left}
use Rattle.hprof_rows.specs.Tables.{facts_of_table}
use Rattle.hprof_heap.specs.HeapFacts.{facts_of}
use Rattle.hprof_threads.proofs.SerialLists.{ended_all, ended_more, ended_none}
use Rattle.hprof_threads.proofs.serials.ended_threads.Goals as goal

pub loop-fact-init : goal.loop-fact-init
loop-fact-init c =
    ended_none (facts_of_table tables.Ends (facts_of c.args.heap.now)) (facts_left c.into_iter-fact-iterator.result) c.new-ended.result
    c.new-ended.ensures.empty
    (ap (λ (facts : Facts). facts_left facts) c.into_iter-fact-iterator.ensures.into_iter_gives ∙ c.table_facts-fact-items.ensures.all)

pub loop-fact-preserved : goal.loop-fact-preserved
loop-fact-preserved c =
    ended_more (facts_of_table tables.Ends (facts_of c.args.heap.now)) (facts_left c.loop-fact.fact-iterator) (facts_left c.next.new.self)
    c.loop-fact.ended c.note_ended.new.ended (value_of c.in-Some.fact) c.in-Some.ensures.steps.0 c.in_ok-note_ended.ensures
    c.loop-fact.invariant

pub returns : goal.returns
returns c =
    ended_all (facts_of c.args.heap.now) (facts_left c.loop-fact.fact-iterator) c.loop-fact.ended c.in-None.ensures.steps.0.0
    c.loop-fact.invariant
