use Rattle.std.proofs.Common.{Ok}
use Rattle.hprof_heap.proofs.Joins.{join_exists, join_once, join_turned, join_itself}
use Rattle.hprof_heap.proofs.laws.two_heaps_have_one_join.Goals as goal

pub returns-clause-exists : goal.returns-clause-exists
returns-clause-exists c = join_exists

pub returns-clause-both_orders : goal.returns-clause-both_orders
returns-clause-both_orders c = λ one other outcome turned is is_too j k.
    join_once one other outcome turned j (join_turned other one turned k)

pub returns-clause-unchanged : goal.returns-clause-unchanged
returns-clause-unchanged c = λ heap outcome is j. join_once heap heap outcome (Ok heap) j (join_itself heap is)
