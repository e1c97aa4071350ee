use Rattle.std.proofs.Common.{sym, subst}
use Rattle.hprof_heap.specs.HeapFacts.{facts_of, size_of}
use Rattle.hprof_keeps.specs.BiggestText.{IsBiggestText}
use Rattle.hprof_keeps.specs.Chosen.{IsChosen}
use Rattle.hprof_keeps.specs.declared.choice.Choice.TheVariants.{OfClasses}
use Rattle.hprof_lines.specs.Passed.{EndsPassed}
use Rattle.hprof_ask.specs.OfName.{biggest_of_name}
use Rattle.hprof_ask.specs.Report.{IsReportOfClasses}
use Rattle.hprof_questions.specs.declared.report.KindReport.{KindReport}
use Rattle.hprof_questions.specs.declared.report.KindReport.TheVariants.{Biggest}
use Rattle.hprof_large.proofs.NamedKind.{ends_same}
use Rattle.hprof_large.proofs.kind.write_of_classes.Goals as goal

-- class dumps are chosen exactly if the name is that of the class of all classes
pub returns-in-Biggest-clause-ends : goal.returns-in-Biggest-clause-ends
returns-in-Biggest-clause-ends g c =
    let ids = size_of c.args.heap.now in
    let facts = facts_of c.args.heap.now in
    let objects = c.args.objects.now in
    let name = c.args.name.now in
    let classes = c.args.classes.now in
    let MakeUp = g.O.Objects.make_up objects ids facts in
    let agree = g.O.Objects.agree objects ids facts in
    let tells = g.O.Objects.tells objects ids facts in
    let with = c.names_classes-with_class_dumps.result in
    subst (λ (report : KindReport). EndsPassed MakeUp agree tells (λ all. IsReportOfClasses ids all report name classes)
    g.W.Target.written g.W.Target.health c.args.target.now c.write_biggest_over.new.target c.write_biggest_over.result)
    (sym c.in-Biggest.is)
    (ends_same MakeUp agree tells (λ all. IsBiggestText ids all (IsChosen all (OfClasses c.args.classes with)))
    (λ all. IsReportOfClasses ids all Biggest name classes) g.W.Target.written g.W.Target.health c.args.target.now
    c.write_biggest_over.new.target
    (λ all text is. biggest_of_name ids all name classes with c.names_classes-with_class_dumps.ensures text is)
    c.write_biggest_over.result c.write_biggest_over.ensures.ends)

pub returns-in-Objects-clause-ends : goal.returns-in-Objects-clause-ends
returns-in-Objects-clause-ends g c =
    let ids = size_of c.args.heap.now in
    let facts = facts_of c.args.heap.now in
    let objects = c.args.objects.now in
    subst (λ (report : KindReport). EndsPassed (g.O.Objects.make_up objects ids facts) (g.O.Objects.agree objects ids facts)
    (g.O.Objects.tells objects ids facts) (λ all. IsReportOfClasses ids all report c.args.name.now c.args.classes.now)
    g.W.Target.written g.W.Target.health c.args.target.now c.write_objects_of_classes_over.new.target
    c.write_objects_of_classes_over.result) (sym c.in-Objects.is) c.write_objects_of_classes_over.ensures
