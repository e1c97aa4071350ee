use Rattle.std.proofs.Common.{sym, subst}
use Rattle.hprof_heap.specs.Heap.{heap_of}
use Rattle.hprof_heap.specs.HeapFacts.{facts_of, size_of}
use Rattle.hprof_histogram.specs.Known.{MadeUpWith}
use Rattle.hprof_questions.specs.declared.report.Report.{Report}
use Rattle.hprof_questions.specs.declared.report.Report.TheVariants as reports
use Rattle.hprof_ask.specs.Report.{IsHeapReport, IsReportText, RefusesReport}
use Rattle.hprof_ask.specs.Summarised.{Holds}
use Rattle.hprof_ask.proofs.Ends.{of_kept}
use Rattle.hprof_making.specs.Over.{EndsOver, heap_with}
use Rattle.hprof_making.proofs.Passed.{ends_fewer, ends_over}
use Rattle.hprof_large.proofs.passed_report.write_report_over.Goals as goal

pub returns-in-Heap-clause-ends : goal.returns-in-Heap-clause-ends
unfolding facts_of size_of
returns-in-Heap-clause-ends g c = λ summaries holds.
    let ids = size_of c.args.heap.now in
    let facts = facts_of c.args.heap.now in
    let objects = c.args.objects.now in
    let Made = MadeUpWith (g.O.Objects.make_up objects ids facts) ids c.args.known in
    let agree = g.O.Objects.agree objects ids facts in
    let tells = g.O.Objects.tells objects ids facts in
    let held = c.deref.result.now in
    let report = reports.Heap c.in-Heap.report in
    let whole = heap_with (heap_of c.args.heap.now) in
    subst (λ (r : Report). EndsOver Made agree tells (λ all. IsReportText r summaries (whole all)) (λ refusal all. RefusesReport all r
    refusal)
    g.W.Target.written g.W.Target.health c.args.target.now c.write_heap_report.new.target c.write_heap_report.result) (sym c.in-Heap.is)
    (ends_over Made agree tells (λ all. IsHeapReport held ids all c.in-Heap.report) (λ all. IsReportText report summaries (whole all))
    g.W.Target.written g.W.Target.health c.args.target.now c.write_heap_report.new.target
    (λ all text make is. of_kept report c.args.kept.now held summaries ids all text c.deref.ensures.value
    (subst (λ (r : Report). Holds r c.args.kept.now summaries) c.in-Heap.is holds) is)
    (λ refusal all. RefusesReport all report refusal) c.write_heap_report.result c.write_heap_report.ensures.ends)

pub returns-in-Kind-clause-ends : goal.returns-in-Kind-clause-ends
unfolding facts_of size_of
returns-in-Kind-clause-ends g c = λ summaries holds.
    let ids = size_of c.args.heap.now in
    let facts = facts_of c.args.heap.now in
    let objects = c.args.objects.now in
    let MakeUp = g.O.Objects.make_up objects ids facts in
    let Made = MadeUpWith MakeUp ids c.args.known in
    let agree = g.O.Objects.agree objects ids facts in
    let tells = g.O.Objects.tells objects ids facts in
    let report = reports.Kind c.in-Kind.report c.in-Kind.kinds in
    let whole = heap_with (heap_of c.args.heap.now) in
    subst (λ (r : Report). EndsOver Made agree tells (λ all. IsReportText r summaries (whole all)) (λ refusal all. RefusesReport all r
    refusal)
    g.W.Target.written g.W.Target.health c.args.target.now c.write_kind.new.target c.write_kind.result) (sym c.in-Kind.is)
    (ends_fewer MakeUp Made agree tells (λ all. IsReportText report summaries (whole all)) (λ refusal all. RefusesReport all report refusal)
    g.W.Target.written g.W.Target.health c.args.target.now c.write_kind.new.target (λ all made. made.0) c.write_kind.result
    (c.write_kind.ensures.ends summaries))

pub returns-in-Node-clause-ends : goal.returns-in-Node-clause-ends
unfolding facts_of size_of
returns-in-Node-clause-ends g c = λ summaries holds.
    let ids = size_of c.args.heap.now in
    let facts = facts_of c.args.heap.now in
    let objects = c.args.objects.now in
    let MakeUp = g.O.Objects.make_up objects ids facts in
    let Made = MadeUpWith MakeUp ids c.args.known in
    let agree = g.O.Objects.agree objects ids facts in
    let tells = g.O.Objects.tells objects ids facts in
    let report = reports.Node c.in-Node.report c.in-Node.node in
    let whole = heap_with (heap_of c.args.heap.now) in
    subst (λ (r : Report). EndsOver Made agree tells (λ all. IsReportText r summaries (whole all)) (λ refusal all. RefusesReport all r
    refusal)
    g.W.Target.written g.W.Target.health c.args.target.now c.write_node.new.target c.write_node.result) (sym c.in-Node.is)
    (ends_fewer MakeUp Made agree tells (λ all. IsReportText report summaries (whole all)) (λ refusal all. RefusesReport all report refusal)
    g.W.Target.written g.W.Target.health c.args.target.now c.write_node.new.target (λ all made. made.0) c.write_node.result
    (c.write_node.ensures.ends summaries))
