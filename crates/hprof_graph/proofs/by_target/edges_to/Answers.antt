use Rattle.std.proofs.Common.{◌≡◌, ◌≤◌, true, false, List, length, nat_le, nat_lt, rules, of_calls, take, subst, sym, ap, ◌∙◌}
use Rattle.std.specs.Prelude.{◌↔◌, Contains}
use Rattle.std.specs.List.Sorted.{IsPartitionPoint, IsPartitionedBy, IsStrictlySortedBy}
use Rattle.std.proofs.lemmas.Fn.{always_returns_same}
use Rattle.hprof_edges.specs.declared.edge.Edge.{Edge}
use Rattle.hprof_edges.specs.contracts.edge.EdgeOrd.TheImpl as edge_ord
use Rattle.hprof_graph.proofs.ByTargetOrder.{cut_below, cut_up_to, run_ascends, run_exact}
use Rattle.hprof_graph.proofs.by_target.edges_to.Goals as goal

pub returns-clause-ascend : goal.returns-clause-ascend
returns-clause-ascend c = λ sorted.
    let edges = c.args.edges.now in
    let id = c.args.id in
    let start = c.partition_point-start.result in
    let count = c.partition_point-count.result in
    let back = c.split_at.ensures.back in
    let first = c.partition_point-start.ensures.partitioned (λ edge. nat_lt edge.to id)
    (always_returns_same _ _ _ (λ a r f k. search (rules, of_calls))) (cut_below edges sorted id) in
    let last = c.partition_point-count.ensures.partitioned (λ edge. nat_le edge.to id)
    (always_returns_same _ _ _ (λ a r f k. search (rules, of_calls)))
    (subst (IsPartitionedBy (λ (edge : Edge). nat_le edge.to id)) (sym back) (cut_up_to edges sorted id start)) in
    let run_is = c.split_at-2.ensures.front ∙ ap (take count) back in
    subst (IsStrictlySortedBy (edge_ord.ghosts).cmp) (sym run_is)
    (run_ascends edges sorted id start count c.partition_point-start.ensures.bound
    (subst (λ (l : List Edge). count ≤ length l) back c.partition_point-count.ensures.bound) first
    (subst (λ (l : List Edge). IsPartitionPoint (λ (edge : Edge). nat_le edge.to id ≡ true)
    (λ (edge : Edge). nat_le edge.to id ≡ false) l count)
    back last))

pub returns-clause-exact : goal.returns-clause-exact
returns-clause-exact c = λ sorted edge.
    let edges = c.args.edges.now in
    let id = c.args.id in
    let start = c.partition_point-start.result in
    let count = c.partition_point-count.result in
    let back = c.split_at.ensures.back in
    let first = c.partition_point-start.ensures.partitioned (λ edge. nat_lt edge.to id)
    (always_returns_same _ _ _ (λ a r f k. search (rules, of_calls))) (cut_below edges sorted id) in
    let last = c.partition_point-count.ensures.partitioned (λ edge. nat_le edge.to id)
    (always_returns_same _ _ _ (λ a r f k. search (rules, of_calls)))
    (subst (IsPartitionedBy (λ (edge : Edge). nat_le edge.to id)) (sym back) (cut_up_to edges sorted id start)) in
    let run_is = c.split_at-2.ensures.front ∙ ap (take count) back in
    subst (λ (l : List Edge). Contains l edge ↔ (Contains edges edge × (edge.to ≡ id))) (sym run_is)
    (run_exact edges sorted id start count c.partition_point-start.ensures.bound
    (subst (λ (l : List Edge). count ≤ length l) back c.partition_point-count.ensures.bound) first
    (subst (λ (l : List Edge). IsPartitionPoint (λ (edge : Edge). nat_le edge.to id ≡ true)
    (λ (edge : Edge). nat_le edge.to id ≡ false) l count)
    back last) edge)
