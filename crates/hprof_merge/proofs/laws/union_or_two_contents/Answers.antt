use Rattle.hprof_merge.proofs.Unions.{union_apart, one_least}
use Rattle.hprof_merge.proofs.laws.union_or_two_contents.Goals as goal

pub returns-clause-apart : goal.returns-clause-apart
returns-clause-apart c = union_apart

pub returns-clause-one : goal.returns-clause-one
returns-clause-one c = one_least
