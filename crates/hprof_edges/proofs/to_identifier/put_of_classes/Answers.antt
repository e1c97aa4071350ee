use Rattle.std.proofs.Common.{refl, sym, ap, subst, ◌∙◌}
use Rattle.hprof_items.specs.FactValue.{value_of}
use Rattle.hprof_rows.specs.declared.table.Table.TheVariants as tables
use Rattle.hprof_rows.specs.FactsLeft.{facts_left}
use Rattle.hprof_rows.specs.Tables.{facts_of_table}
use Rattle.hprof_heap.specs.ClassDump.{class_value}
use Rattle.hprof_heap.specs.HeapFacts.{facts_of}
use Rattle.hprof_edges.specs.DumpEdges.{IsClassEdge}
use Rattle.hprof_edges.proofs.TableEdges.{GivesByClass, GoneOver, class_table, gives_dump, gone_over_all, gone_over_none, gone_over_one}
use Rattle.hprof_edges.proofs.TableEdges.{gone_over_other, no_dump_no_edge}
use Rattle.hprof_edges.proofs.PutTogether.{put_same}
use Rattle.hprof_edges.proofs.to_identifier.put_of_classes.Goals as goal

pub loop-fact-init : goal.loop-fact-init
loop-fact-init g c = record {
  put = λ edges held.
      let table = facts_of_table tables.Classes (facts_of c.args.heap.now) in
      subst (GoneOver GivesByClass (g.C.Collect.holds c.args.into.now) edges table)
      (sym (ap facts_left c.into_iter-fact-iterator.ensures.into_iter_gives ∙ c.table_facts-fact-items.ensures.all))
      (gone_over_none GivesByClass (g.C.Collect.holds c.args.into.now) edges table held);
  keeps = refl;
}

pub loop-fact-preserved-in-Continue-1 : goal.loop-fact-preserved-in-Continue-1
loop-fact-preserved-in-Continue-1 g c = record {
  put = λ edges held.
      let dump = class_value c.in-Some-to_class_dump.dump in
      let fact = value_of c.in-Some.fact in
      let after = g.C.Collect.holds c.class_edges.new.into in
      gone_over_one GivesByClass (g.C.Collect.holds c.loop-fact.into) after edges
      (facts_of_table tables.Classes (facts_of c.args.heap.now)) (facts_left c.loop-fact.fact-iterator) (facts_left c.next.new.self) fact
      (c.loop-fact.invariant.put edges held) c.in-Some.ensures.steps.0
      (λ longer held_more. put_same longer after (IsClassEdge dump) (GivesByClass fact)
      (c.in_ok-class_edges.ensures.holds longer held_more) (gives_dump dump fact c.in-Some-to_class_dump.ensures.found));
  keeps = c.in_ok-class_edges.ensures.keeps ∙ c.loop-fact.invariant.keeps;
}

pub loop-fact-preserved : goal.loop-fact-preserved
loop-fact-preserved g c = record {
  put = λ edges held.
      let fact = value_of c.in-Some.fact in
      gone_over_other GivesByClass (g.C.Collect.holds c.loop-fact.into) edges
      (facts_of_table tables.Classes (facts_of c.args.heap.now)) (facts_left c.loop-fact.fact-iterator) (facts_left c.next.new.self) fact
      (c.loop-fact.invariant.put edges held) c.in-Some.ensures.steps.0 (no_dump_no_edge fact c.in_default.ensures.none);
  keeps = c.loop-fact.invariant.keeps;
}

pub returns-clause-holds : goal.returns-clause-holds
returns-clause-holds g c = λ edges held.
    let table = facts_of_table tables.Classes (facts_of c.args.heap.now) in
    put_same edges (g.C.Collect.holds c.loop-fact.into) _ _
    (gone_over_all GivesByClass (g.C.Collect.holds c.loop-fact.into) edges table (facts_left c.loop-fact.fact-iterator)
    (c.loop-fact.invariant.put edges held) c.in-None.ensures.steps.0.0)
    (class_table (facts_of c.args.heap.now))
