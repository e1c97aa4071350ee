use Rattle.hprof_reach.proofs.Choices.{no_farther, unreached, walk_more}
use Rattle.hprof_reach.proofs.laws.more_edges_reach_more.Goals as goal

pub returns-clause-walk : goal.returns-clause-walk
returns-clause-walk g c = λ ids facts more. walk_more g.C.TwoChoices.one g.C.TwoChoices.other ids facts more

pub returns-clause-unreached : goal.returns-clause-unreached
returns-clause-unreached g c = λ ids facts more. unreached g.C.TwoChoices.one g.C.TwoChoices.other ids facts more

pub returns-clause-nearer : goal.returns-clause-nearer
returns-clause-nearer g c = λ ids facts more. no_farther g.C.TwoChoices.one g.C.TwoChoices.other ids facts more
