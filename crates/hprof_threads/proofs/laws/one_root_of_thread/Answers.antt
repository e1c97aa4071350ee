use Rattle.hprof_threads.proofs.FirstRoots.{root_exists}
use Rattle.hprof_threads.proofs.ThreadAnswers.{root_once}
use Rattle.hprof_threads.proofs.laws.one_root_of_thread.Goals as goal

pub returns-clause-exists : goal.returns-clause-exists
returns-clause-exists c = root_exists

pub returns-clause-once : goal.returns-clause-once
returns-clause-once c = root_once
