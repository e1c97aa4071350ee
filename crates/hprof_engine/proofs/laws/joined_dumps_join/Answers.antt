use Rattle.hprof_engine.proofs.Groups.{dumps_come, parts_come, group_disagrees, group_has_two_sizes, group_has_two_sizes_alone}
use Rattle.hprof_engine.proofs.laws.joined_dumps_join.Goals as goal

pub returns-clause-dumps : goal.returns-clause-dumps
returns-clause-dumps c = λ parts groups dumps outcome divided are.
    (dumps_come parts groups dumps outcome divided are, parts_come parts groups dumps outcome divided are)

pub returns-clause-disagree : goal.returns-clause-disagree
returns-clause-disagree c = group_disagrees

pub returns-clause-two_sizes : goal.returns-clause-two_sizes
returns-clause-two_sizes c = group_has_two_sizes

pub returns-clause-nothing_else : goal.returns-clause-nothing_else
returns-clause-nothing_else c = group_has_two_sizes_alone
