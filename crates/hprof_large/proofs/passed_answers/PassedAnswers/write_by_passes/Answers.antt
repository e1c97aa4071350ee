use Rattle.std.proofs.Common.{None}
use Rattle.std.specs.declared.alloc.Global.{Global}
use Rattle.std.specs.Prelude.{Vec}
use Rattle.std.proofs.Common.{refl}
use Rattle.hprof_stream.specs.declared.summary.PartSummary.{PartSummary}
use Rattle.hprof_heap.specs.HeapFacts.{facts_of, size_of}
use Rattle.hprof_histogram.specs.Known.{MadeUpWith}
use Rattle.hprof_making.proofs.Passed.{ends_fewer}
use Rattle.hprof_questions.specs.declared.report.HeapReport.TheVariants as heaps
use Rattle.hprof_questions.specs.declared.report.Report.{Report}
use Rattle.hprof_questions.specs.declared.report.Report.TheVariants as reports
use Rattle.hprof_ask.specs.Report.{IsReport, RefusesReport}
use Rattle.hprof_ask.specs.Summarised.{Holds}
use Rattle.hprof_large.proofs.passed_answers.PassedAnswers.write_by_passes.Goals as goal

-- all summaries are held for each report
held : (report : Report) (kept : Vec PartSummary Global) → Holds report kept kept.items
held (reports.Heap heaps.Check) kept = refl
held other kept = tt

pub returns-clause-ends : goal.returns-clause-ends
unfolding facts_of size_of
returns-clause-ends g c =
    let self = c.args.self.now in
    let ids = size_of self.heap.now in
    let facts = facts_of self.heap.now in
    let report = c.args.report in
    let Made = g.O.Objects.make_up self.objects ids facts in
    ends_fewer (MadeUpWith Made ids None) Made (g.O.Objects.agree self.objects (size_of self.heap.now) (facts_of self.heap.now))
    (g.O.Objects.tells self.objects ids facts)
    (λ all. IsReport self.summaries.now.items ids all report) (λ refusal all. RefusesReport all report refusal)
    g.W.Target.written g.W.Target.health c.args.target.now c.write_report_over.new.target (λ all made. (made, tt))
    c.write_report_over.result
    (c.write_report_over.ensures.ends self.summaries.now.items (held report self.summaries.now))
