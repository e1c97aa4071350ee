use Rattle.hprof_reach.proofs.RootLists.{one_list, pick, picked_roots}
use Rattle.hprof_reach.proofs.laws.one_list_of_roots.Goals as goal

pub returns-clause-exists : goal.returns-clause-exists
returns-clause-exists c = λ facts id ordered. (pick id facts, picked_roots id facts ordered)

pub returns-clause-once : goal.returns-clause-once
returns-clause-once c = one_list
