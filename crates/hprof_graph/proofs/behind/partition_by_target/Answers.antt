use Rattle.std.specs.List.Sorted.{IsPartitionPoint, IsPartitionedBy}
use Rattle.std.proofs.Common.{◌≡◌, ◌≤◌, List, false, length, rules, of_calls, subst, sym, true, arith}
use Rattle.std.proofs.lemmas.Fn.{always_returns_same}
use Rattle.std.proofs.lemmas.List.Filters.{dedup_is}
use Rattle.hprof_edges.specs.declared.edge.Edge.{Edge}
use Rattle.hprof_graph.proofs.MovedBehind.{IsBrought, brought, to_other}
use Rattle.hprof_graph.proofs.behind.partition_by_target.Goals as goal

-- what the edges are, step by step
brought_so : (c : goal.After-partition_point) → IsBrought c.args.id c.args.edges.now.items c.dedup.new.self.items c.partition_point.result
brought_so c =
    let start = c.move_behind-start.result in
    let moved = c.move_behind-start.new.edges.items in
    let sorted = c.sort_from.new.edges.items in
    let len = c.move_behind-start.new.edges.ok.0 in
    let within = c.move_behind-start.ensures.within in
    let once = dedup_is _ _ _ c.dedup.ensures.filtered in
    brought c.args.id c.args.edges.now.items moved sorted c.dedup.new.self.items start c.partition_point.result
    (omega (arith, len, within)) c.move_behind-start.ensures.moved c.move_behind-start.ensures.others
    (λ place d on below. c.move_behind-start.ensures.behind place d on (omega (arith, len, below))) c.sort_from.ensures.before
    c.sort_from.ensures.moved c.sort_from.ensures.sorted once
    (subst (λ (l : List Edge). c.partition_point.result ≤ length l) c.deref.ensures.value c.partition_point.ensures.bound)
    (λ parted. subst (λ (l : List Edge). IsPartitionPoint (λ (edge : Edge). to_other c.args.id edge ≡ true)
    (λ (edge : Edge). to_other c.args.id edge ≡ false) l c.partition_point.result) c.deref.ensures.value
    (c.partition_point.ensures.partitioned (to_other c.args.id) (always_returns_same _ _ _ (λ a r f k. search (rules, of_calls)))
    (subst (IsPartitionedBy (to_other c.args.id)) (sym c.deref.ensures.value) parted)))

pub returns-clause-ascend : goal.returns-clause-ascend
returns-clause-ascend c = (brought_so c).ascend

pub returns-clause-exact : goal.returns-clause-exact
returns-clause-exact c = (brought_so c).exact

pub returns-clause-same : goal.returns-clause-same
returns-clause-same c = (brought_so c).same
