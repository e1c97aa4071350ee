use Rattle.hprof_questions.proofs.KeptLines.{front_asks}
use Rattle.hprof_questions.proofs.question.last_question.Goals as goal

pub returns : goal.returns
returns c = λ line is. front_asks line c.args.kept.now c.question_of.result is c.question_of.ensures
