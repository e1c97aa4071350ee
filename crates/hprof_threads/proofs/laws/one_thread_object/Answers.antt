use Rattle.hprof_threads.proofs.ThreadAnswers.{object_exists, object_once}
use Rattle.hprof_threads.proofs.laws.one_thread_object.Goals as goal

pub returns-clause-exists : goal.returns-clause-exists
returns-clause-exists c = object_exists

pub returns-clause-once : goal.returns-clause-once
returns-clause-once c = λ facts serial one other agree. object_once facts agree serial one other
