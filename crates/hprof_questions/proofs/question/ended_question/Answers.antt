use Rattle.hprof_questions.proofs.KeptLines.{bare_asks, stripped_asks}
use Rattle.hprof_questions.proofs.question.ended_question.Goals as goal

pub returns-in-Some : goal.returns-in-Some
returns-in-Some c = λ before line is is_line.
    stripped_asks before line c.args.kept.now c.in-Some.line.now c.question_of.result is c.in-Some.ensures is_line c.question_of.ensures

pub returns-in-None : goal.returns-in-None
returns-in-None c = λ before line is is_line.
    bare_asks before line c.args.kept.now c.question_of-in-None.result is c.in-None.ensures is_line c.question_of-in-None.ensures
