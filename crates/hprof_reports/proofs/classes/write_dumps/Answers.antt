use Rattle.std.proofs.Common.{ap, subst, sym, ◌∙◌}
use Rattle.std.specs.Io.KnownBytes.{Appends}
use Rattle.std.proofs.lemmas.Result.{err_from_is_err_and}
use Rattle.hprof_items.specs.FactValue.{value_of}
use Rattle.hprof_devices.proofs.Writes.{Pushed, Pushed-all, Pushed-more, Pushed-none}
use Rattle.hprof_rows.specs.declared.facts.Facts.{Facts}
use Rattle.hprof_rows.specs.declared.table.Table.TheVariants as tables
use Rattle.hprof_rows.specs.FactsLeft.{facts_left}
use Rattle.hprof_rows.specs.Tables.{facts_of_table}
use Rattle.hprof_heap.specs.ClassDump.{class_value}
use Rattle.hprof_heap.specs.HeapFacts.{facts_of, size_of}
use Rattle.hprof_lines.specs.Stopping.{WritesText}
use Rattle.hprof_lines.proofs.TextWriting.{pushed_stops_within}
use Rattle.hprof_reports.specs.ClassDumps.{dumps_in}
use Rattle.hprof_reports.specs.ClassesText.{class_line, classes_text}
use Rattle.hprof_reports.proofs.ClassLists.{dumps_of_table, dumps_with, dumps_without, none_left}
use Rattle.hprof_reports.proofs.classes.write_dumps.Goals as goal

pub loop-fact-init : goal.loop-fact-init
loop-fact-init g c = record {
  pushed = λ naming all is counted.
      let ids = size_of c.args.heap.now in
      let facts = facts_of c.args.heap.now in
      let written = g.W.Target.written c.args.target.now in
      let same = ap (λ (rows : Facts). facts_left rows) c.into_iter-fact-iterator.ensures.into_iter_gives
      ∙ c.table_facts-fact-items.ensures.all in
      subst (λ left. Pushed written written (classes_text naming ids all (dumps_in (facts_of_table tables.Classes facts)))
      (classes_text naming ids all (dumps_in left))) (sym same)
      (Pushed-none written (classes_text naming ids all (dumps_in (facts_of_table tables.Classes facts))));
  well = c.requires.well;
}

pub loop-fact-preserved-in-Continue-1 : goal.loop-fact-preserved-in-Continue-1
loop-fact-preserved-in-Continue-1 g c = record {
  pushed = λ naming all is counted.
      let ids = size_of c.args.heap.now in
      let facts = facts_of c.args.heap.now in
      let dump = class_value c.in-Some-to_class_dump.dump in
      let line = class_line naming ids all dump in
      Pushed-more (g.W.Target.written c.args.target.now) (g.W.Target.written c.loop-fact.target)
      (g.W.Target.written c.write_line.new.target)
      (classes_text naming ids all (dumps_in (facts_of_table tables.Classes facts)))
      (classes_text naming ids all (dumps_in (facts_left c.loop-fact.fact-iterator))) line
      (classes_text naming ids all (dumps_in (facts_left c.next.new.self))) (c.loop-fact.invariant.pushed naming all is counted)
      (ap (classes_text naming ids all)
      (dumps_with (value_of c.in-Some.fact) (facts_left c.loop-fact.fact-iterator) (facts_left c.next.new.self) dump
      c.in-Some.ensures.steps.0 c.in-Some-to_class_dump.ensures.found))
      (c.in_ok-write_line.ensures.bytes line (c.class_line.ensures naming all is counted));
  well = c.in_ok-write_line.ensures.health;
}

pub returns-in_err-write_line-clause-bytes : goal.returns-in_err-write_line-clause-bytes
returns-in_err-write_line-clause-bytes g c = λ naming all is counted.
    let ids = size_of c.args.heap.now in
    let facts = facts_of c.args.heap.now in
    let dump = class_value c.in-Some-to_class_dump.dump in
    let line = class_line naming ids all dump in
    let r = c.from_residual.result in
    let p = err_from_is_err_and r c.from_residual.ensures.1 in
    subst (λ dumps. WritesText (g.W.Target.written c.args.target.now) (g.W.Target.written c.write_line.new.target) r
    (classes_text naming ids all dumps))
    (dumps_of_table facts)
    (pushed_stops_within r p.0 p.1 (g.W.Target.written c.args.target.now) (g.W.Target.written c.loop-fact.target)
    (classes_text naming ids all (dumps_in (facts_of_table tables.Classes facts)))
    (classes_text naming ids all (dumps_in (facts_left c.loop-fact.fact-iterator))) (c.loop-fact.invariant.pushed naming all is counted)
    (g.W.Target.written c.write_line.new.target) line (classes_text naming ids all (dumps_in (facts_left c.next.new.self)))
    (ap (classes_text naming ids all)
    (dumps_with (value_of c.in-Some.fact) (facts_left c.loop-fact.fact-iterator) (facts_left c.next.new.self) dump
    c.in-Some.ensures.steps.0 c.in-Some-to_class_dump.ensures.found))
    (c.in_err-write_line.ensures.bytes line (c.class_line.ensures naming all is counted)))

pub loop-fact-preserved : goal.loop-fact-preserved
loop-fact-preserved g c = record {
  pushed = λ naming all is counted.
      let ids = size_of c.args.heap.now in
      let facts = facts_of c.args.heap.now in
      subst (λ dumps. Pushed (g.W.Target.written c.args.target.now) (g.W.Target.written c.loop-fact.target)
      (classes_text naming ids all (dumps_in (facts_of_table tables.Classes facts))) (classes_text naming ids all dumps))
      (dumps_without (value_of c.in-Some.fact) (facts_left c.loop-fact.fact-iterator) (facts_left c.next.new.self)
      c.in-Some.ensures.steps.0 c.in_default.ensures.none)
      (c.loop-fact.invariant.pushed naming all is counted);
  well = c.loop-fact.invariant.well;
}

pub returns-clause-bytes : goal.returns-clause-bytes
returns-clause-bytes g c = λ naming all is counted.
    let ids = size_of c.args.heap.now in
    let facts = facts_of c.args.heap.now in
    subst (λ dumps. Appends (g.W.Target.written c.args.target.now) (g.W.Target.written c.loop-fact.target)
    (classes_text naming ids all dumps))
    (dumps_of_table facts)
    (Pushed-all (g.W.Target.written c.args.target.now) (g.W.Target.written c.loop-fact.target)
    (classes_text naming ids all (dumps_in (facts_of_table tables.Classes facts)))
    (classes_text naming ids all (dumps_in (facts_left c.loop-fact.fact-iterator))) (c.loop-fact.invariant.pushed naming all is counted)
    (none_left naming ids all (facts_left c.loop-fact.fact-iterator) c.in-None.ensures.steps.0.0))
