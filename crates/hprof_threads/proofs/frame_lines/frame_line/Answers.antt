use Rattle.hprof_heap.specs.HeapFacts.{facts_of}
use Rattle.hprof_threads.proofs.FrameAnswers.{line_is, only_line}
use Rattle.hprof_threads.proofs.frame_lines.frame_line.Goals as goal

pub returns-clause-form : goal.returns-clause-form
returns-clause-form c =
    line_is (facts_of c.args.heap.now) c.holds_of_heap.ensures.agree c.args.id c.in-Some.frame c.find_load-class.result c.in-Some.ensures
    c.find_load-class.ensures c.line_of.result (c.line_of.ensures c.args.id)

pub returns-clause-only : goal.returns-clause-only
returns-clause-only c =
    only_line (facts_of c.args.heap.now) c.holds_of_heap.ensures.agree c.args.id c.in-Some.frame c.find_load-class.result c.in-Some.ensures
    c.find_load-class.ensures c.line_of.result (c.line_of.ensures c.args.id)
