use Rattle.hprof_threads.proofs.FrameAnswers.{line_exists, line_once}
use Rattle.hprof_threads.proofs.laws.one_frame_line.Goals as goal

pub returns-clause-exists : goal.returns-clause-exists
returns-clause-exists c = line_exists

pub returns-clause-once : goal.returns-clause-once
returns-clause-once c = λ facts naming id one other agree. line_once facts agree naming id one other
