use Rattle.hprof_edges.proofs.MoreFacts.{edge_stays}
use Rattle.hprof_graph.proofs.laws.referrers_only_grow.Goals as goal

pub returns : goal.returns
returns c = λ ids facts more id edges others edge all are are_more there.
    let was = (are.exact edge).0 there in
    (are_more.exact edge).1 (edge_stays facts more all ids edge was.0, was.1)
