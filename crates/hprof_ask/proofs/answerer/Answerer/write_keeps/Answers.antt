use Rattle.std.proofs.lemmas.Result.{err_from_is_err_and}
use Rattle.hprof_heap.specs.HeapFacts.{facts_of, size_of}
use Rattle.hprof_lines.proofs.TextWriting.{text_unwritten}
use Rattle.hprof_questions.specs.declared.report.NodeReport.TheVariants as nodes
use Rattle.hprof_ask.specs.SomeReport.{some_node_report}
use Rattle.hprof_ask.proofs.answerer.Answerer.write_keeps.Goals as goal

-- memory was wanted before the first line
pub returns-in_err-survey-clause-bytes : goal.returns-in_err-survey-clause-bytes
returns-in_err-survey-clause-bytes g c =
    let heap = c.args.self.now.heap.now in
    let text = some_node_report (size_of heap) (facts_of heap) c.holds_of_heap.ensures.agree nodes.Keeps c.args.id in
    let r = c.from_residual in
    let p = err_from_is_err_and r.result r.ensures.1 in
    (text.0, text.1, text_unwritten r.result (g.W.Target.written c.args.target.now) p.0 text.0 p.1)

pub returns-in_err-references-clause-bytes : goal.returns-in_err-references-clause-bytes
returns-in_err-references-clause-bytes g c =
    let heap = c.args.self.now.heap.now in
    let text = some_node_report (size_of heap) (facts_of heap) c.holds_of_heap.ensures.agree nodes.Keeps c.args.id in
    let r = c.from_residual-in_err-references in
    let p = err_from_is_err_and r.result r.ensures.1 in
    (text.0, text.1, text_unwritten r.result (g.W.Target.written c.args.target.now) p.0 text.0 p.1)

pub returns-in_err-retained-clause-bytes : goal.returns-in_err-retained-clause-bytes
returns-in_err-retained-clause-bytes g c =
    let heap = c.args.self.now.heap.now in
    let text = some_node_report (size_of heap) (facts_of heap) c.holds_of_heap.ensures.agree nodes.Keeps c.args.id in
    let r = c.from_residual-in_err-retained in
    let p = err_from_is_err_and r.result r.ensures.1 in
    (text.0, text.1, text_unwritten r.result (g.W.Target.written c.args.target.now) p.0 text.0 p.1)
