use Rattle.hprof_heap.proofs.Joins.{union_left, union_right, union_once}
use Rattle.hprof_heap.proofs.laws.groups_of_heaps_do_not_matter.Goals as goal

pub returns-clause-left : goal.returns-clause-left
returns-clause-left c = union_left

pub returns-clause-right : goal.returns-clause-right
returns-clause-right c = union_right

pub returns-clause-once : goal.returns-clause-once
returns-clause-once c = union_once
