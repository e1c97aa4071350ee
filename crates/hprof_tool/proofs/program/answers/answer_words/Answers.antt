use Rattle.std.proofs.Common.{rules}
use Rattle.hprof_tool.proofs.program.answers.answer_words.Goals as goal

pub returns-then-eq : goal.returns-then-eq
returns-then-eq g c = search rules

pub returns-then-is_err : goal.returns-then-is_err
returns-then-is_err g c = search rules

pub returns-then-use_stderr : goal.returns-then-use_stderr
returns-then-use_stderr g c = search rules
