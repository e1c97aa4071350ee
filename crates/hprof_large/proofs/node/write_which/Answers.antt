use Rattle.std.proofs.Common.{List, [], Result, Ok, Err, refl, subst}
use Rattle.hprof_items.specs.FactValue.{FactValue}
use Rattle.hprof_heap.specs.HeapFacts.{facts_of, size_of}
use Rattle.hprof_passes.specs.declared.pass_fault.PassFault.TheVariants.{Sink}
use Rattle.hprof_engine.specs.declared.product.ProductFault.{ProductFault}
use Rattle.hprof_lines.proofs.PassedEnds.{ends_passed}
use Rattle.hprof_lines.specs.Stopping.{WritesText}
use Rattle.hprof_meaning.specs.MeantClasses.{AreMeantDumps}
use Rattle.hprof_questions.specs.declared.report.Node.TheVariants as that
use Rattle.hprof_questions.specs.declared.report.Report.TheVariants as reports
use Rattle.hprof_ask.specs.Report.{IsNamedReport, RefusesReport}
use Rattle.hprof_making.proofs.Passed.{ends_over}
use Rattle.hprof_large.proofs.NamedDumps.{back_of, dumps_same, none_there, some_there, told_of_several}
use Rattle.hprof_large.proofs.node.write_which.Goals as goal

-- no class dump has the name
pub returns-then-is_empty : goal.returns-then-is_empty
returns-then-is_empty g c = λ report. (
  c.in-Ok.ensures.agree,
  λ all make.
      let ids = size_of c.args.heap.now in
      let facts = facts_of c.args.heap.now in
      let whole = g.met.O.Objects.whole c.args.objects.now ids facts all make in
      let back = back_of ids facts all whole c.holds_of_heap.ensures.fit c.holds_of_heap.ensures.ordered in
      dumps_same ids facts all whole back c.args.name.now []
      (subst (AreMeantDumps facts c.args.name.now) (none_there c.args.dumps.now c.if-is_empty.ensures) c.requires.dumps),
  refl,
)

pub returns-in-Ok-write_classes_of_name : goal.returns-in-Ok-write_classes_of_name
returns-in-Ok-write_classes_of_name g c = λ report.
    let ids = size_of c.args.heap.now in
    let facts = facts_of c.args.heap.now in
    let objects = c.args.objects.now in
    let name = c.args.name.now in
    let old = g.W.Target.written c.args.target.now in
    let new = g.W.Target.written c.write_classes_of_name.new.target in
    let answer : Result (Unit {0}) ProductFault = Ok c.in-Ok-write_classes_of_name.field-0 in
    let MakeUp = g.O.Objects.make_up objects ids facts in
    let agree = g.O.Objects.agree objects ids facts in
    let tells = g.O.Objects.tells objects ids facts in
    let IsText = λ (all : List FactValue). IsNamedReport ids all report name in
    ends_over MakeUp agree tells IsText IsText g.W.Target.written g.W.Target.health c.args.target.now c.write_classes_of_name.new.target
    (λ all text make is. is) (λ refusal all. RefusesReport all (reports.Node report (that.Named c.args.name)) refusal)
    (Ok c.in-Ok-write_classes_of_name.field-0)
    (ends_passed MakeUp agree tells IsText g.W.Target.written g.W.Target.health c.args.target.now c.write_classes_of_name.new.target answer
    c.in-Ok.ensures.agree
    (λ all make.
    let whole = g.met.O.Objects.whole objects ids facts all make in
    let back = back_of ids facts all whole c.holds_of_heap.ensures.fit c.holds_of_heap.ensures.ordered in
    told_of_several ids facts all whole back report name
    c.args.dumps.now c.requires.dumps (some_there c.args.dumps.now c.if-is_empty.ensures) c.requires.others (WritesText old new answer)
    c.in-Ok-write_classes_of_name.ensures.bytes)
    c.in-Ok-write_classes_of_name.ensures.health)

pub returns-in-Err-write_classes_of_name : goal.returns-in-Err-write_classes_of_name
returns-in-Err-write_classes_of_name g c = λ report.
    let ids = size_of c.args.heap.now in
    let facts = facts_of c.args.heap.now in
    let objects = c.args.objects.now in
    let name = c.args.name.now in
    let old = g.W.Target.written c.args.target.now in
    let new = g.W.Target.written c.write_classes_of_name.new.target in
    let stop = c.in-Err-write_classes_of_name.stop in
    let answer : Result (Unit {0}) ProductFault = Err stop in
    let MakeUp = g.O.Objects.make_up objects ids facts in
    let agree = g.O.Objects.agree objects ids facts in
    let tells = g.O.Objects.tells objects ids facts in
    let IsText = λ (all : List FactValue). IsNamedReport ids all report name in
    ends_over MakeUp agree tells IsText IsText g.W.Target.written g.W.Target.health c.args.target.now c.write_classes_of_name.new.target
    (λ all text make is. is) (λ refusal all. RefusesReport all (reports.Node report (that.Named c.args.name)) refusal) (Err (Sink stop))
    (ends_passed MakeUp agree tells IsText g.W.Target.written g.W.Target.health c.args.target.now c.write_classes_of_name.new.target answer
    c.in-Ok.ensures.agree
    (λ all make.
    let whole = g.met.O.Objects.whole objects ids facts all make in
    let back = back_of ids facts all whole c.holds_of_heap.ensures.fit c.holds_of_heap.ensures.ordered in
    told_of_several ids facts all whole back report name
    c.args.dumps.now c.requires.dumps (some_there c.args.dumps.now c.if-is_empty.ensures) c.requires.others (WritesText old new answer)
    c.in-Err-write_classes_of_name.ensures.bytes)
    c.in-Err-write_classes_of_name.ensures.health)
