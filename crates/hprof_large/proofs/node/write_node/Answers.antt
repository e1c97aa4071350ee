use Rattle.std.proofs.Common.{sym, subst}
use Rattle.hprof_heap.specs.Heap.{heap_of}
use Rattle.hprof_heap.specs.HeapFacts.{facts_of, size_of}
use Rattle.hprof_questions.specs.declared.report.Node.{Node}
use Rattle.hprof_questions.specs.declared.report.Report.TheVariants as reports
use Rattle.hprof_ask.specs.Report.{IsNodeReport, IsReportText, RefusesReport}
use Rattle.hprof_making.specs.Over.{EndsOver, heap_with}
use Rattle.hprof_making.proofs.Passed.{ends_over}
use Rattle.hprof_large.proofs.node.write_node.Goals as goal

pub returns-in-Identifier-clause-ends : goal.returns-in-Identifier-clause-ends
unfolding facts_of size_of
returns-in-Identifier-clause-ends g c = λ summaries.
    let ids = size_of c.args.heap.now in
    let facts = facts_of c.args.heap.now in
    let objects = c.args.objects.now in
    let report = c.args.report in
    ends_over (g.O.Objects.make_up objects ids facts) (g.O.Objects.agree objects ids facts) (g.O.Objects.tells objects ids facts)
    (λ all. IsNodeReport ids all report c.in-Identifier.id)
    (λ all. IsReportText (reports.Node report c.args.node) summaries (heap_with (heap_of c.args.heap.now) all)) g.W.Target.written
    g.W.Target.health c.args.target.now c.write_on.new.target
    (λ all text make is. subst
    (λ (n : Node). IsReportText (reports.Node report n) summaries (heap_with (heap_of c.args.heap.now) all) text)
    (sym c.in-Identifier.is) is)
    (λ refusal all. RefusesReport all (reports.Node report c.args.node) refusal) c.write_on.result c.write_on.ensures.ends

pub returns-in-Named-clause-ends : goal.returns-in-Named-clause-ends
unfolding facts_of size_of
returns-in-Named-clause-ends g c = λ summaries.
    let ids = size_of c.args.heap.now in
    let facts = facts_of c.args.heap.now in
    let objects = c.args.objects.now in
    let report = c.args.report in
    subst (λ (n : Node). EndsOver (g.O.Objects.make_up objects ids facts) (g.O.Objects.agree objects ids facts)
    (g.O.Objects.tells objects ids facts)
    (λ all. IsReportText (reports.Node report n) summaries (heap_with (heap_of c.args.heap.now) all))
    (λ refusal all. RefusesReport all (reports.Node report n) refusal) g.W.Target.written g.W.Target.health c.args.target.now
    c.write_named.new.target c.write_named.result) (sym c.in-Named.is) c.write_named.ensures.ends
