use Rattle.std.specs.Prelude.{⊤}
use Rattle.std.proofs.Common.{Result, Some, Ok, Err, sym, subst}
use Rattle.hprof_heap.specs.HeapFacts.{facts_of, size_of}
use Rattle.hprof_engine.specs.declared.product.ProductFault.{ProductFault}
use Rattle.hprof_engine.specs.declared.tool_fault.ToolFault.{ToolFault}
use Rattle.hprof_engine.specs.Makes.{Makes}
use Rattle.hprof_engine.proofs.Answers.{summaries_held}
use Rattle.hprof_engine.proofs.Making.{refused, ended}
use Rattle.hprof_graph.specs.Indexed.{indexed_heap}
use Rattle.hprof_questions.specs.declared.report.NodeReport.TheVariants as nodes
use Rattle.hprof_questions.specs.declared.report.Node.TheVariants as that
use Rattle.hprof_questions.specs.declared.report.Report.TheVariants as reports
use Rattle.hprof_ask.specs.Report.{IsReportText, RefusesReport, TakesRoom, report_making}
use Rattle.hprof_ask.proofs.Ends.{text_ends}
use Rattle.hprof_ask.proofs.calls.who_to.Goals as goal

pub returns-in-Err : goal.returns-in-Err
returns-in-Err g c =
    let e = c.in-Err.ensures in
    refused g.R.Source.left g.R.Source.health g.R.Source.pulls g.W.Target.written g.W.Target.health c.args.limits _
    c.args.readers.now c.read_heap.new.readers c.args.target.now c.in-Err.fault e.kind e.reads e.no_other

pub write_who_once-requires-clause-edges : goal.write_who_once-requires-clause-edges
unfolding facts_of size_of
write_who_once-requires-clause-edges g c =
    let e = c.in-Ok.ensures in
    let heap = indexed_heap c.in-Ok.found in
    c.referrers.ensures.value heap.ids heap.facts (e.listed c.args.id c.watching-live.ensures.watches)

pub returns-in-Ok-write_who_once : goal.returns-in-Ok-write_who_once
unfolding facts_of size_of
returns-in-Ok-write_who_once g c =
    let e = c.in-Ok.ensures in
    let report = reports.Node nodes.Who (that.Identifier c.args.id) in
    let heap = indexed_heap c.in-Ok.found in
    let r : Result (Unit {0}) ProductFault = Ok c.in-Ok-write_who_once.field-0 in
    ended g.R.Source.left g.R.Source.health g.R.Source.pulls c.args.limits c.args.readers.now c.read_heap.new.readers
    g.W.Target.written g.W.Target.health (IsReportText report) (λ refusal other. RefusesReport other.facts report refusal)
    (TakesRoom report) ⊤ c.args.target.now c.write_who_once.new.target
    heap e.told.summaries e.ok (summaries_held g.R.Source.left _ c.args.readers.now _ e.told) e.reads r
    (text_ends g.W.Target.written g.W.Target.health (IsReportText report e.told.summaries heap)
    (RefusesReport heap.facts report) ⊤ c.args.target.now c.write_who_once.new.target
    r c.in-Ok-write_who_once.ensures.bytes.0 c.in-Ok-write_who_once.ensures.bytes.1 c.in-Ok-write_who_once.ensures.bytes.2
    c.in-Ok-write_who_once.ensures.health (λ _. tt))

pub returns : goal.returns
unfolding facts_of size_of
returns g c =
    let e = c.in-Ok.ensures in
    let report = reports.Node nodes.Who (that.Identifier c.args.id) in
    let heap = indexed_heap c.in-Ok.found in
    let r : Result (Unit {0}) ProductFault = Err c.in-Err-write_who_once.stop in
    subst (λ (fault : ToolFault). Makes g.R.Source.left g.R.Source.health g.R.Source.pulls g.W.Target.written g.W.Target.health
    c.args.limits
    (report_making report) c.args.readers.now c.read_heap.new.readers c.args.target.now c.write_who_once.new.target (Some fault))
    (sym c.from.ensures)
    (ended g.R.Source.left g.R.Source.health g.R.Source.pulls c.args.limits c.args.readers.now c.read_heap.new.readers
    g.W.Target.written g.W.Target.health (IsReportText report) (λ refusal other. RefusesReport other.facts report refusal)
    (TakesRoom report) ⊤ c.args.target.now c.write_who_once.new.target
    heap e.told.summaries e.ok (summaries_held g.R.Source.left _ c.args.readers.now _ e.told) e.reads r
    (text_ends g.W.Target.written g.W.Target.health (IsReportText report e.told.summaries heap)
    (RefusesReport heap.facts report) ⊤ c.args.target.now c.write_who_once.new.target
    r c.in-Err-write_who_once.ensures.bytes.0 c.in-Err-write_who_once.ensures.bytes.1 c.in-Err-write_who_once.ensures.bytes.2
    c.in-Err-write_who_once.ensures.health (λ _. tt)))
