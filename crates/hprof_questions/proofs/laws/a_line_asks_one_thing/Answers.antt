use Rattle.hprof_questions.proofs.OneQuestion.{asks_once}
use Rattle.hprof_questions.proofs.SomeQuestion.{some_question}
use Rattle.hprof_questions.proofs.laws.a_line_asks_one_thing.Goals as goal

pub returns-clause-some : goal.returns-clause-some
returns-clause-some c = some_question

pub returns-clause-one : goal.returns-clause-one
returns-clause-one c = asks_once
