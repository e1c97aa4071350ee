use Rattle.std.proofs.Common.{◌<◌, length, arith, sym, ◌∙◌}
use Rattle.std.proofs.lemmas.Bool.{eqb-false}
use Rattle.std.proofs.lemmas.Result.{err_from_is_err_and}
use Rattle.hprof_questions.proofs.Hearing.{heard_last}
use Rattle.hprof_questions.proofs.dialogue.answer_last.Goals as goal

pub returns-clause-bytes : goal.returns-clause-bytes
returns-clause-bytes g c = λ heap about bytes start heard.
    let none = eqb-false (length c.args.line.now) 0 (sym c.is_empty.ensures ∙ c.if-is_empty.false) in
    let some : 0 < length c.args.line.now = omega (arith, none) in
    let last = heard_last (g.A.Answers.is_answer c.args.answers.now heap) bytes start (g.W.Target.written c.args.target.now) c.args.line.now
    heard some c.last_question.result c.last_question.ensures c.take_question.result (g.W.Target.written c.take_question.new.target)
    (c.take_question.ensures.takes heap about) in
    rw c.in_ok-take_question.was at last

pub returns-in_err-take_question-clause-bytes : goal.returns-in_err-take_question-clause-bytes
returns-in_err-take_question-clause-bytes g c = λ heap about bytes start heard.
    let none = eqb-false (length c.args.line.now) 0 (sym c.is_empty.ensures ∙ c.if-is_empty.false) in
    let some : 0 < length c.args.line.now = omega (arith, none) in
    let p = err_from_is_err_and c.from_residual.result c.from_residual.ensures.1 in
    let last = heard_last (g.A.Answers.is_answer c.args.answers.now heap) bytes start (g.W.Target.written c.args.target.now) c.args.line.now
    heard some c.last_question.result c.last_question.ensures c.take_question.result (g.W.Target.written c.take_question.new.target)
    (c.take_question.ensures.takes heap about) in
    rw (p.1, p.2) (rw c.in_err-take_question.was at last)
