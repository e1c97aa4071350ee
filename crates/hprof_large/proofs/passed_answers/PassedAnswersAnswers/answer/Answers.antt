use Rattle.std.proofs.Common.{◌++◌, refl, Result, subst, sym}
use Rattle.hprof_lines.proofs.TextWriting.{text_then}
use Rattle.hprof_lines.specs.Stopping.{WritesText}
use Rattle.hprof_questions.specs.declared.dialogue_fault.DialogueFault.{DialogueFault}
use Rattle.hprof_questions.specs.Answering.{WritesAnswer}
use Rattle.hprof_ask.specs.HeapAnswers.{behind_reply}
use Rattle.hprof_large.proofs.Answering.{answer_stops, answered}
use Rattle.hprof_large.proofs.passed_answers.PassedAnswersAnswers.answer.Goals as goal

pub returns-in-Ok-clause-bytes : goal.returns-in-Ok-clause-bytes
returns-in-Ok-clause-bytes g c = λ whole is.
    let it = c.in-Ok.ensures.bytes whole is in
    let old = g.W.Target.written c.args.target.now in
    let mid = g.W.Target.written c.write_reply.new.target in
    let new = g.W.Target.written c.write_str.new.target in
    let behind = behind_reply c.args.question in (
      it.0 ++ behind,
      record { reply = it.0; is_reply = it.1; is = refl },
      subst (λ (r : Result (Unit {0}) DialogueFault). WritesAnswer old new r (it.0 ++ behind)) (sym c.answer_of.ensures)
          (answered old new (g.W.Target.health c.write_str.new.target) c.write_str.result (it.0 ++ behind) c.write_str.ensures.health
          (text_then c.write_str.result old mid new it.0 behind it.2
          (subst (WritesText mid new c.write_str.result) c.behind_reply.ensures c.write_str.ensures.bytes))),
    )

pub returns-in-Err-clause-bytes : goal.returns-in-Err-clause-bytes
returns-in-Err-clause-bytes g c = λ whole is.
    let it = c.in-Err.ensures.bytes whole is in
    let behind = behind_reply c.args.question in (
      it.0 ++ behind,
      record { reply = it.0; is_reply = it.1; is = refl },
      answer_stops (g.W.Target.written c.args.target.now) (g.W.Target.written c.write_reply.new.target) c.in-Err.stop it.0 behind it.2,
    )
