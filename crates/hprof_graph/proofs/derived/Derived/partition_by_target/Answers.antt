use Rattle.std.proofs.Common.{drop, refl}
use Rattle.hprof_edges.proofs.EdgeSets.{set_sorted}
use Rattle.hprof_graph.proofs.Deriving.{same_set}
use Rattle.hprof_graph.proofs.KeptReferrers.{kept_referrers, referrers_are}
use Rattle.hprof_graph.proofs.derived.Derived.partition_by_target.Goals as goal

pub returns-clause-behind : goal.returns-clause-behind
returns-clause-behind c = λ ids facts is keeps.
    referrers_are ids facts c.args.id c.args.self.now is keeps (drop c.partition_by_target.result c.partition_by_target.new.edges.items)
    c.partition_by_target.ensures.ascend c.partition_by_target.ensures.exact

pub returns-clause-same : goal.returns-clause-same
returns-clause-same c = λ ids facts is.
    let set = c.args.self.now.set in
    let other = record set { edges = c.partition_by_target.new.edges } in
    same_set ids facts c.args.self.now other (set_sorted set other refl c.partition_by_target.ensures.same) is

pub returns-clause-kept : goal.returns-clause-kept
returns-clause-kept c = λ ids facts is.
    kept_referrers ids facts c.args.id c.args.self.now is (drop c.partition_by_target.result c.partition_by_target.new.edges.items)
    c.partition_by_target.ensures.ascend c.partition_by_target.ensures.exact
