use Rattle.std.proofs.Common.{eq-eqb}
use Rattle.hprof_edges.proofs.LeastEdges.{keeps_first, keeps_same, not_same}
use Rattle.hprof_edges.proofs.least.LeastEdgeCollect.put.Goals as goal

pub returns-then-edge-self-clause-holds : goal.returns-then-edge-self-clause-holds
returns-then-edge-self-clause-holds c = λ edges least.
    keeps_first c.args.self.now.to edges c.args.edge c.first_of.result c.args.self.now.edge
    (eq-eqb c.args.edge.to c.args.self.now.to c.if-edge-self.true) c.first_of.ensures.one
    c.first_of.ensures.edge c.first_of.ensures.kept least

pub returns-else-edge-self-clause-holds : goal.returns-else-edge-self-clause-holds
returns-else-edge-self-clause-holds c = λ edges least.
    keeps_same c.args.self.now.to edges c.args.edge c.args.self.now.edge
    (not_same c.args.edge.to c.args.self.now.to c.if-edge-self.false) least
