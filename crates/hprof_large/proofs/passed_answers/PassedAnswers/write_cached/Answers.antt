use Rattle.std.proofs.Common.{refl}
use Rattle.hprof_questions.specs.declared.dialogue_fault.DialogueFault.TheVariants.{OutOfMemory}
use Rattle.hprof_large.proofs.Answering.{no_heap_report}
use Rattle.hprof_large.proofs.passed_answers.PassedAnswers.write_cached.Goals as goal

-- the objects cannot be gone through: nothing was written
pub returns-in-Err-Lost-clause-bytes : goal.returns-in-Err-Lost-clause-bytes
returns-in-Err-Lost-clause-bytes g c =
    let self = c.args.self.now in
    let old = g.W.Target.written c.args.target.now in
    no_heap_report self.heap.now (g.O.Objects.make_up self.objects) (g.met.O.Objects.whole self.objects) self.summaries.now.items
    c.args.report old old c.stop_of_pass_fault.result refl

-- and so it is if memory runs out
pub returns-in-Err-Sink-clause-bytes : goal.returns-in-Err-Sink-clause-bytes
returns-in-Err-Sink-clause-bytes g c =
    let self = c.args.self.now in
    let old = g.W.Target.written c.args.target.now in
    no_heap_report self.heap.now (g.O.Objects.make_up self.objects) (g.met.O.Objects.whole self.objects) self.summaries.now.items
    c.args.report old old OutOfMemory refl
