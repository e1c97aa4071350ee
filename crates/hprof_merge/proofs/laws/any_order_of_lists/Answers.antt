use Rattle.hprof_merge.proofs.Unions.{permuted, union_same, least_same}
use Rattle.hprof_merge.proofs.laws.any_order_of_lists.Goals as goal

pub returns-clause-union : goal.returns-clause-union
returns-clause-union c = λ lists others all moves. union_same lists others (permuted lists others moves) all

pub returns-clause-contents : goal.returns-clause-contents
returns-clause-contents c = λ lists others key moves. least_same lists others (permuted lists others moves) key
