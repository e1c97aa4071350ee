use Rattle.hprof_questions.proofs.OneLine.{lines_once, lines_then, some_lines}
use Rattle.hprof_questions.proofs.laws.bytes_have_one_list_of_lines.Goals as goal

pub returns-clause-some : goal.returns-clause-some
returns-clause-some c = some_lines

pub returns-clause-one : goal.returns-clause-one
returns-clause-one c = lines_once

pub returns-clause-more : goal.returns-clause-more
returns-clause-more c = lines_then
