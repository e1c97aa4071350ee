use Rattle.std.proofs.Common.{◌≡◌, subst, sym}
use Rattle.hprof_stream.specs.declared.limits.Limits.{Limits}
use Rattle.hprof_engine.specs.Joining.{fault_of}
use Rattle.hprof_engine.specs.Makes.{Makes}
use Rattle.hprof_questions.specs.declared.report.Node.TheVariants as that
use Rattle.hprof_questions.specs.declared.report.NodeReport.TheVariants as nodes
use Rattle.hprof_questions.specs.declared.report.Report.{Report}
use Rattle.hprof_questions.specs.declared.report.Report.TheVariants as reports
use Rattle.hprof_ask.specs.Report.{report_making}
use Rattle.hprof_tool.proofs.Making.{are_usual}
use Rattle.hprof_tool.specs.Again.{report_of_parts}
use Rattle.hprof_tool.specs.Program.{usual_limits}
use Rattle.hprof_tool.proofs.ReportMaking.{heap_makes, node_report}
use Rattle.hprof_tool.proofs.program.made.report_in_memory.Goals as goal

-- references are found while parts are read

pub returns-in-Node-Refs-Identifier : goal.returns-in-Node-Refs-Identifier
returns-in-Node-Refs-Identifier g c =
    let known = c.in-Node-Refs-Identifier in
    let usual = c.usual.ensures in
    let report = reports.Node nodes.Refs (that.Identifier known.id) in
    let is : c.args.report ≡ report = node_report c.args.report known.field-0 nodes.Refs known.field-1 known.id known.is
    (rw known.is at known.field-0-is) (rw known.is at known.field-1-is) in
    subst (λ (report : Report). Makes g.R.Source.left g.R.Source.health g.R.Source.pulls g.W.Target.written g.W.Target.health usual_limits
    (report_of_parts report) c.args.readers.now c.refs_to.new.readers c.args.target.now c.refs_to.new.target
    (fault_of c.refs_to.result)) (sym is)
    (heap_makes g.R.Source.left g.R.Source.health g.R.Source.pulls usual_limits g.W.Target.written g.W.Target.health
    c.args.readers.now c.refs_to.new.readers c.args.target.now c.refs_to.new.target (fault_of c.refs_to.result) report
    (subst (λ (limits : Limits). Makes g.R.Source.left g.R.Source.health g.R.Source.pulls g.W.Target.written g.W.Target.health limits
    (report_making report) c.args.readers.now c.refs_to.new.readers c.args.target.now c.refs_to.new.target (fault_of c.refs_to.result))
    (are_usual c.usual.result usual.item usual.reads usual.bytes) c.refs_to.ensures))

pub returns-in-Node-Who-Identifier : goal.returns-in-Node-Who-Identifier
returns-in-Node-Who-Identifier g c =
    let known = c.in-Node-Who-Identifier in
    let usual = c.usual-in-Node-Who-Identifier.ensures in
    let report = reports.Node nodes.Who (that.Identifier known.id) in
    let is : c.args.report ≡ report = node_report c.args.report known.field-0 nodes.Who known.field-1 known.id known.is
    (rw known.is at known.field-0-is) (rw known.is at known.field-1-is) in
    subst (λ (report : Report). Makes g.R.Source.left g.R.Source.health g.R.Source.pulls g.W.Target.written g.W.Target.health usual_limits
    (report_of_parts report) c.args.readers.now c.who_to.new.readers c.args.target.now c.who_to.new.target
    (fault_of c.who_to.result)) (sym is)
    (heap_makes g.R.Source.left g.R.Source.health g.R.Source.pulls usual_limits g.W.Target.written g.W.Target.health
    c.args.readers.now c.who_to.new.readers c.args.target.now c.who_to.new.target (fault_of c.who_to.result) report
    (subst (λ (limits : Limits). Makes g.R.Source.left g.R.Source.health g.R.Source.pulls g.W.Target.written g.W.Target.health limits
    (report_making report) c.args.readers.now c.who_to.new.readers c.args.target.now c.who_to.new.target (fault_of c.who_to.result))
    (are_usual c.usual-in-Node-Who-Identifier.result usual.item usual.reads usual.bytes) c.who_to.ensures))

-- all other reports are made of a heap
pub returns-in_default : goal.returns-in_default
returns-in_default g c =
    let made = c.make_of_heap in
    heap_makes g.R.Source.left g.R.Source.health g.R.Source.pulls usual_limits g.W.Target.written g.W.Target.health
    c.args.readers.now made.new.readers c.args.target.now made.new.target (fault_of made.result) c.args.report made.ensures
