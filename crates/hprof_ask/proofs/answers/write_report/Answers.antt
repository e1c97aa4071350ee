use Rattle.hprof_heap.specs.HeapFacts.{facts_of, size_of}
use Rattle.hprof_ask.proofs.Replies.{stopped}
use Rattle.hprof_ask.proofs.answers.write_report.Goals as goal

pub returns-in-Err-Write-clause-bytes : goal.returns-in-Err-Write-clause-bytes
returns-in-Err-Write-clause-bytes g c =
    let heap = c.args.answerer.now.heap.now in
    let it = c.in-Err-Write in
    (stopped g.W.Target.written g.W.Target.health c.args.answerer.now.summaries.now (size_of heap) (facts_of heap) c.args.report
    c.args.target.now c.write.new.target it.field-0 (λ refusal e. let is = it.field-0-is in absurd cc) it.ensures.ends).0

pub returns-in-Err-OutOfMemory-clause-bytes : goal.returns-in-Err-OutOfMemory-clause-bytes
returns-in-Err-OutOfMemory-clause-bytes g c =
    let heap = c.args.answerer.now.heap.now in
    let it = c.in-Err-OutOfMemory in
    (stopped g.W.Target.written g.W.Target.health c.args.answerer.now.summaries.now (size_of heap) (facts_of heap) c.args.report
    c.args.target.now c.write.new.target it.field-0 (λ refusal e. let is = it.field-0-is in absurd cc) it.ensures.ends).0
