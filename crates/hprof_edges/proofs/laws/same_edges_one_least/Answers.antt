use Rattle.hprof_edges.proofs.LeastEdges.{least_of_same}
use Rattle.hprof_edges.proofs.laws.same_edges_one_least.Goals as goal

pub returns : goal.returns
returns g c = λ ids facts same. least_of_same g.C.TwoChoices.one g.C.TwoChoices.other ids facts same
