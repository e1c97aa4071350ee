use Rattle.hprof_histogram.proofs.ObjectOrder.{one_list, some_list}
use Rattle.hprof_histogram.proofs.laws.one_list_of_objects.Goals as goal

pub returns-clause-exists : goal.returns-clause-exists
returns-clause-exists c = some_list

pub returns-clause-once : goal.returns-clause-once
returns-clause-once c = one_list
