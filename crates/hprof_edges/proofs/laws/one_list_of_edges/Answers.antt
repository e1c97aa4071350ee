use Rattle.std.proofs.Common.{◌≡◌}
use Rattle.hprof_edges.proofs.SortedEdges.{one_list}
use Rattle.hprof_edges.proofs.laws.one_list_of_edges.Goals as goal

pub returns-clause-from : goal.returns-clause-from
returns-clause-from c = λ ids facts id one other are too. one_list ids facts (λ edge. edge.from ≡ id) one other are too

pub returns-clause-to : goal.returns-clause-to
returns-clause-to c = λ ids facts id one other are too. one_list ids facts (λ edge. edge.to ≡ id) one other are too
