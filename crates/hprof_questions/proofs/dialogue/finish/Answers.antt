use Rattle.std.specs.Prelude.{⊤}
use Rattle.hprof_questions.proofs.Dialogues.{lost_none, lost_passed}
use Rattle.hprof_questions.proofs.Hearing.{flushes_all, stopped_passed}
use Rattle.hprof_questions.proofs.dialogue.finish.Goals as goal

pub returns-clause-bytes : goal.returns-clause-bytes
returns-clause-bytes g c = λ heap about bytes start heard.
    flushes_all (g.A.Answers.is_answer c.args.answers.now heap) c.flush_all.result bytes start
    (g.W.Target.written c.answer_last.new.target) (g.W.Target.written c.flush_all.new.target)
    (c.in_default.ensures.bytes heap about bytes start heard) c.flush_all.ensures.bytes c.flush_all.ensures.writer

pub returns-clause-lost : goal.returns-clause-lost
returns-clause-lost g c = lost_none (g.A.Answers.loses c.args.answers.now) c.flush_all.result c.flush_all.ensures.writer

pub returns-in-Err-clause-bytes : goal.returns-in-Err-clause-bytes
returns-in-Err-clause-bytes g c = λ heap about bytes start heard.
    stopped_passed (g.A.Answers.is_answer c.args.answers.now heap) ⊤ bytes start (g.W.Target.written c.answer_last.new.target)
    (g.W.Target.written c.pass_on.new.target) c.in-Err.stop c.pass_on.result c.pass_on.ensures.bytes c.pass_on.ensures.stop
    (c.in-Err.ensures.bytes heap about bytes start heard)

pub returns-in-Err-clause-lost : goal.returns-in-Err-clause-lost
returns-in-Err-clause-lost g c =
    lost_passed (g.A.Answers.loses c.args.answers.now) c.in-Err.stop c.pass_on.result c.in-Err.ensures.lost c.pass_on.ensures.stop
