use Rattle.std.proofs.Common.{sym, ◌∙◌}
use Rattle.hprof_heap.specs.HeapFacts.{facts_of, size_of}
use Rattle.hprof_questions.specs.declared.report.Node.TheVariants as that
use Rattle.hprof_questions.specs.declared.report.Report.TheVariants as reports
use Rattle.hprof_ask.specs.Report.{IsNamedReport, IsNodeReport, RefusesReport}
use Rattle.hprof_making.proofs.Passed.{ends_over}
use Rattle.hprof_large.proofs.NamedDumps.{dumps_of_whole, report_of_one}
use Rattle.hprof_large.proofs.node.write_named.Goals as goal

pub returns-in-Some-clause-ends : goal.returns-in-Some-clause-ends
returns-in-Some-clause-ends g c =
    let ids = size_of c.args.heap.now in
    let facts = facts_of c.args.heap.now in
    let objects = c.args.objects.now in
    let name = c.args.name.now in
    let report = c.args.report in
    let id = c.in-Some.id in
    let dumps = c.in-Ok-class_dumps_meant.dumps.items in
    let are = c.in-Ok-class_dumps_meant.ensures name c.of-meant.ensures in
    ends_over (g.O.Objects.make_up objects ids facts) (g.O.Objects.agree objects ids facts) (g.O.Objects.tells objects ids facts)
    (λ all. IsNodeReport ids all report id) (λ all. IsNamedReport ids all report name) g.W.Target.written g.W.Target.health
    c.args.target.now c.write_on.new.target
    (λ all text make is. report_of_one ids all report name dumps id (sym c.deref.ensures.value ∙ c.in-Some.ensures)
    (dumps_of_whole ids facts all (g.met.O.Objects.whole objects ids facts all make) c.holds_of_heap.ensures.fit
    c.holds_of_heap.ensures.ordered name dumps are) text is)
    (λ refusal all. RefusesReport all (reports.Node report (that.Named c.args.name)) refusal) c.write_on.result c.write_on.ensures.ends

pub returns-clause-ends : goal.returns-clause-ends
returns-clause-ends g c = c.write_which.ensures c.args.report
