use Rattle.hprof_edges.proofs.MoreFacts.{edge_stays}
use Rattle.hprof_edges.proofs.laws.more_facts_keep_edges.Goals as goal

pub returns : goal.returns
returns c = λ ids facts more edge all is. edge_stays facts more all ids edge is
