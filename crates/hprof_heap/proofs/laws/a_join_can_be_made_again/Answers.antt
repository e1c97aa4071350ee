use Rattle.hprof_heap.proofs.Joins.{join_again}
use Rattle.hprof_heap.proofs.laws.a_join_can_be_made_again.Goals as goal

pub returns : goal.returns
returns c = λ one other between outcome is. join_again one other between outcome
