use Rattle.hprof_edges.proofs.TableEdges.{all_edges}
use Rattle.hprof_edges.proofs.laws.dumps_give_edges.Goals as goal

pub returns : goal.returns
returns c = λ ids facts edge. all_edges ids facts edge
