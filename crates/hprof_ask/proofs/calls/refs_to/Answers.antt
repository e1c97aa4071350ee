use Rattle.std.specs.Prelude.{⊤, map}
use Rattle.std.proofs.Common.{Result, Some, Ok, Err, refl, sym, subst}
use Rattle.hprof_heap.specs.HeapFacts.{facts_of, size_of}
use Rattle.hprof_engine.specs.declared.product.ProductFault.{ProductFault}
use Rattle.hprof_engine.specs.declared.tool_fault.ToolFault.{ToolFault}
use Rattle.hprof_engine.specs.Makes.{Makes}
use Rattle.hprof_engine.proofs.Answers.{summaries_held}
use Rattle.hprof_engine.proofs.Making.{refused, ended}
use Rattle.hprof_graph.specs.Indexed.{indexed_heap}
use Rattle.hprof_lines.specs.Line.{text_of_lines}
use Rattle.hprof_reports.specs.RefsText.{edge_line}
use Rattle.hprof_questions.specs.declared.report.NodeReport.TheVariants as nodes
use Rattle.hprof_questions.specs.declared.report.Node.TheVariants as that
use Rattle.hprof_questions.specs.declared.report.Report.TheVariants as reports
use Rattle.hprof_ask.specs.Report.{IsReportText, RefusesReport, TakesRoom, report_making}
use Rattle.hprof_ask.proofs.Ends.{text_ends}
use Rattle.hprof_ask.proofs.calls.refs_to.Goals as goal

pub returns-in-Err : goal.returns-in-Err
returns-in-Err g c =
    let e = c.in-Err.ensures in
    refused g.R.Source.left g.R.Source.health g.R.Source.pulls g.W.Target.written g.W.Target.health c.args.limits _
    c.args.readers.now c.read_heap.new.readers c.args.target.now c.in-Err.fault e.kind e.reads e.no_other

pub returns-in-Ok-write_refs : goal.returns-in-Ok-write_refs
unfolding facts_of size_of
returns-in-Ok-write_refs g c =
    let e = c.in-Ok.ensures in
    let report = reports.Node nodes.Refs (that.Identifier c.args.id) in
    let heap = indexed_heap c.in-Ok.found in
    let edges = c.referrers.result.now in
    let r : Result (Unit {0}) ProductFault = Ok c.in-Ok-write_refs.field-0 in
    ended g.R.Source.left g.R.Source.health g.R.Source.pulls c.args.limits c.args.readers.now c.read_heap.new.readers
    g.W.Target.written g.W.Target.health (IsReportText report) (λ refusal other. RefusesReport other.facts report refusal)
    (TakesRoom report) ⊤ c.args.target.now c.write_refs.new.target
    heap e.told.summaries e.ok (summaries_held g.R.Source.left _ c.args.readers.now _ e.told) e.reads r
    (text_ends g.W.Target.written g.W.Target.health (IsReportText report e.told.summaries heap)
    (RefusesReport heap.facts report) ⊤ c.args.target.now c.write_refs.new.target
    r (text_of_lines (map edge_line edges))
    (record {
      edges = edges;
      are_referrers = c.referrers.ensures.value heap.ids heap.facts (e.listed c.args.id c.watching-live.ensures.watches);
      is = refl;
    }) c.in-Ok-write_refs.ensures.bytes c.in-Ok-write_refs.ensures.health (λ _. tt))

pub returns : goal.returns
unfolding facts_of size_of
returns g c =
    let e = c.in-Ok.ensures in
    let report = reports.Node nodes.Refs (that.Identifier c.args.id) in
    let heap = indexed_heap c.in-Ok.found in
    let edges = c.referrers.result.now in
    let r : Result (Unit {0}) ProductFault = Err c.in-Err-write_refs.stop in
    subst (λ (fault : ToolFault). Makes g.R.Source.left g.R.Source.health g.R.Source.pulls g.W.Target.written g.W.Target.health
    c.args.limits
    (report_making report) c.args.readers.now c.read_heap.new.readers c.args.target.now c.write_refs.new.target (Some fault))
    (sym c.from.ensures)
    (ended g.R.Source.left g.R.Source.health g.R.Source.pulls c.args.limits c.args.readers.now c.read_heap.new.readers
    g.W.Target.written g.W.Target.health (IsReportText report) (λ refusal other. RefusesReport other.facts report refusal)
    (TakesRoom report) ⊤ c.args.target.now c.write_refs.new.target
    heap e.told.summaries e.ok (summaries_held g.R.Source.left _ c.args.readers.now _ e.told) e.reads r
    (text_ends g.W.Target.written g.W.Target.health (IsReportText report e.told.summaries heap)
    (RefusesReport heap.facts report) ⊤ c.args.target.now c.write_refs.new.target
    r (text_of_lines (map edge_line edges))
    (record {
      edges = edges;
      are_referrers = c.referrers.ensures.value heap.ids heap.facts (e.listed c.args.id c.watching-live.ensures.watches);
      is = refl;
    }) c.in-Err-write_refs.ensures.bytes c.in-Err-write_refs.ensures.health (λ _. tt)))
