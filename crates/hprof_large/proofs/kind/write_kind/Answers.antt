use Rattle.std.proofs.Common.{sym, subst}
use Rattle.hprof_heap.specs.Heap.{heap_of}
use Rattle.hprof_heap.specs.HeapFacts.{facts_of, size_of}
use Rattle.hprof_questions.specs.declared.report.Kinds.{Kinds}
use Rattle.hprof_questions.specs.declared.report.Report.TheVariants as reports
use Rattle.hprof_ask.specs.Report.{IsKindReport, IsReportText, RefusesReport}
use Rattle.hprof_making.specs.Over.{EndsOver, heap_with}
use Rattle.hprof_making.proofs.Passed.{ends_over}
use Rattle.hprof_large.proofs.kind.write_kind.Goals as goal

pub returns-in-Of-clause-ends : goal.returns-in-Of-clause-ends
unfolding facts_of size_of
returns-in-Of-clause-ends g c = λ summaries.
    let ids = size_of c.args.heap.now in
    let facts = facts_of c.args.heap.now in
    let objects = c.args.objects.now in
    ends_over (g.O.Objects.make_up objects ids facts) (g.O.Objects.agree objects ids facts) (g.O.Objects.tells objects ids facts)
    (λ all. IsKindReport ids all c.args.report c.in-Of.kind)
    (λ all. IsReportText (reports.Kind c.args.report c.args.kinds) summaries (heap_with (heap_of c.args.heap.now) all)) g.W.Target.written
    g.W.Target.health c.args.target.now c.write_of_kind.new.target
    (λ all text make is. subst
    (λ (k : Kinds). IsReportText (reports.Kind c.args.report k) summaries
    (heap_with (heap_of c.args.heap.now) all) text) (sym c.in-Of.is) is)
    (λ refusal all. RefusesReport all (reports.Kind c.args.report c.args.kinds) refusal) c.write_of_kind.result c.write_of_kind.ensures.ends

pub returns-in-Named-clause-ends : goal.returns-in-Named-clause-ends
unfolding facts_of size_of
returns-in-Named-clause-ends g c = λ summaries.
    let ids = size_of c.args.heap.now in
    let facts = facts_of c.args.heap.now in
    let objects = c.args.objects.now in
    subst (λ (k : Kinds). EndsOver (g.O.Objects.make_up objects ids facts) (g.O.Objects.agree objects ids facts)
    (g.O.Objects.tells objects ids facts)
    (λ all. IsReportText (reports.Kind c.args.report k) summaries (heap_with (heap_of c.args.heap.now) all))
    (λ refusal all. RefusesReport all (reports.Kind c.args.report k) refusal) g.W.Target.written g.W.Target.health c.args.target.now
    c.write_kind_named.new.target c.write_kind_named.result) (sym c.in-Named.is) c.write_kind_named.ensures.ends
