use Rattle.std.proofs.Common.{refl, sym, ◌∙◌}
use Rattle.hprof_edges.proofs.EdgeSets.{set_more, set_same}
use Rattle.hprof_edges.proofs.edge_set.EdgeSetCollect.put.Goals as goal

pub returns-in_ok-push-clause-holds : goal.returns-in_ok-push-clause-holds
returns-in_ok-push-clause-holds c = λ edges of.
    set_more c.args.self.now (record c.args.self.now { edges = c.push.new.self }) c.args.edge refl
    (sym c.wants.ensures ∙ c.if-wants.true) c.in_ok-push.ensures.items edges of

pub returns-else-wants-clause-holds : goal.returns-else-wants-clause-holds
returns-else-wants-clause-holds c = λ edges of.
    set_same c.args.self.now c.args.self.now c.args.edge refl (sym c.wants.ensures ∙ c.if-wants.false) refl edges of
