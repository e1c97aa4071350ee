use Rattle.hprof_merge.proofs.Unions.{group_at_most, group_below}
use Rattle.hprof_merge.proofs.laws.two_contents_in_a_group.Goals as goal

pub returns-clause-at_most : goal.returns-clause-at_most
returns-clause-at_most c = group_at_most

pub returns-clause-below : goal.returns-clause-below
returns-clause-below c = group_below
