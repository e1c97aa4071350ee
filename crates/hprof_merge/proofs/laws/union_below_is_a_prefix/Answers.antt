use Rattle.hprof_merge.proofs.Unions.{union_front}
use Rattle.hprof_merge.proofs.laws.union_below_is_a_prefix.Goals as goal

pub returns : goal.returns
returns c = union_front
