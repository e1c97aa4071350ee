use Rattle.hprof_reach.proofs.Choices.{same_distance, same_path, same_reach}
use Rattle.hprof_reach.proofs.laws.same_edges_same_paths.Goals as goal

pub returns-clause-distance : goal.returns-clause-distance
returns-clause-distance g c = λ ids facts same. same_distance g.C.TwoChoices.one g.C.TwoChoices.other ids facts same

pub returns-clause-path : goal.returns-clause-path
returns-clause-path g c = λ ids facts same. same_path g.C.TwoChoices.one g.C.TwoChoices.other ids facts same

pub returns-clause-reach : goal.returns-clause-reach
returns-clause-reach g c = λ ids facts same. same_reach g.C.TwoChoices.one g.C.TwoChoices.other ids facts same
