use Rattle.std.proofs.Common.{sym, subst}
use Rattle.hprof_questions.specs.Answering.{AreAnswers}
use Rattle.hprof_questions.proofs.Hearing.{answers_then}
use Rattle.hprof_questions.proofs.OneText.{answers_ended, answers_front, answers_once, answers_split, some_answers}
use Rattle.hprof_questions.proofs.laws.answers_are_one_text.Goals as goal

pub returns-clause-some : goal.returns-clause-some
returns-clause-some g c = λ heap about.
    some_answers (g.A.Answers.is_answer c.args.answers.now heap) (g.met.A.Answers.some_answer c.args.answers.now heap about)

pub returns-clause-one : goal.returns-clause-one
returns-clause-one g c = λ heap about.
    answers_once (g.A.Answers.is_answer c.args.answers.now heap) (g.met.A.Answers.one_answer c.args.answers.now heap about)

pub returns-clause-together : goal.returns-clause-together
returns-clause-together g c = λ heap about lines more text none. (
  answers_split (g.A.Answers.is_answer c.args.answers.now heap) lines more text none,
  λ it. subst (AreAnswers (g.A.Answers.is_answer c.args.answers.now heap) _) (sym it.4)
      (answers_then (g.A.Answers.is_answer c.args.answers.now heap) lines more it.0 it.1 none it.2 it.3),
)

pub returns-clause-behind : goal.returns-clause-behind
returns-clause-behind g c = λ heap about lines more last text quits. (
  answers_front (g.A.Answers.is_answer c.args.answers.now heap) lines more last text quits,
  answers_ended (g.A.Answers.is_answer c.args.answers.now heap) lines more last text quits,
)
