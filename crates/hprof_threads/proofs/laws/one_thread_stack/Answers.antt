use Rattle.hprof_threads.proofs.ThreadAnswers.{stack_exists, stack_once}
use Rattle.hprof_threads.proofs.laws.one_thread_stack.Goals as goal

pub returns-clause-exists : goal.returns-clause-exists
returns-clause-exists c = stack_exists

pub returns-clause-once : goal.returns-clause-once
returns-clause-once c = λ facts serial one other agree. stack_once facts agree serial one other
