use Rattle.hprof_threads.proofs.NameAnswers.{thread_name_exists, thread_name_once}
use Rattle.hprof_threads.proofs.laws.one_thread_name.Goals as goal

pub returns-clause-exists : goal.returns-clause-exists
returns-clause-exists c = thread_name_exists

pub returns-clause-once : goal.returns-clause-once
returns-clause-once c = λ ids facts object one other agree. thread_name_once facts agree ids object one other
