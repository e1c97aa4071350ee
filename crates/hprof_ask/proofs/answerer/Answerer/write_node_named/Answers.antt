use Rattle.hprof_heap.specs.HeapFacts.{facts_of, size_of}
use Rattle.hprof_questions.specs.declared.report.Node.TheVariants as that
use Rattle.hprof_questions.specs.declared.report.Report.TheVariants as reports
use Rattle.hprof_ask.proofs.Ends.{wanted}
use Rattle.hprof_ask.proofs.answerer.Answerer.write_node_named.Goals as goal

-- memory was wanted before the first line
pub returns-in_default-clause-ends : goal.returns-in_default-clause-ends
returns-in_default-clause-ends g c =
    let heap = c.args.self.now.heap.now in
    wanted g.W.Target.written g.W.Target.health (size_of heap) (facts_of heap) (reports.Node c.args.report (that.Named c.args.name))
    c.args.self.now.summaries.now c.args.target.now c.holds_of_heap.ensures.agree c.requires.well
