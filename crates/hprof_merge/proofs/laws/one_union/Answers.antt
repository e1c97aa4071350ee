use Rattle.hprof_merge.proofs.Unions.{union_unique, union_below_unique}
use Rattle.hprof_merge.proofs.laws.one_union.Goals as goal

pub returns-clause-all : goal.returns-clause-all
returns-clause-all c = union_unique

pub returns-clause-below : goal.returns-clause-below
returns-clause-below c = union_below_unique
