use Rattle.std.proofs.Common.{rules, of_calls}
use Rattle.std.proofs.lemmas.Fn.{always_returns_same}
use Rattle.std.proofs.lemmas.List.Filters.{dedup_is}
use Rattle.std.proofs.lemmas.List.Kept.{IsStrictlySortedBy-dedup, Contains-dedup, Contains-from_dedup}
use Rattle.std.proofs.lemmas.List.Sorted.{Contains-permutation, IsPermutation-sym}
use Rattle.hprof_edges.specs.contracts.edge.EdgeEq.TheImpl.Laws.{laws-law}
use Rattle.hprof_edges.proofs.EdgeEquality.{edge_same}
use Rattle.hprof_graph.specs.ByTarget.{target_first}
use Rattle.hprof_graph.proofs.ByTargetOrder.{target_ties, target_total}
use Rattle.hprof_graph.proofs.by_target.sort_by_target.Goals as goal

pub returns-clause-sorted : goal.returns-clause-sorted
returns-clause-sorted c =
    let is = dedup_is _ _ _ c.dedup.ensures.filtered in
    let sorted = c.sort_unstable_by_key.ensures.sorted target_first (always_returns_same _ _ _ (λ a r f k. search (rules, of_calls))) in
    rw is (IsStrictlySortedBy-dedup target_total target_ties _ sorted)

pub returns-clause-same : goal.returns-clause-same
returns-clause-same c =
    let is = dedup_is _ _ _ c.dedup.ensures.filtered in
    let moved = c.sort_unstable_by_key.ensures.permutation in
    λ edge. (
      λ has. Contains-permutation _ _ edge (IsPermutation-sym _ _ moved) (Contains-from_dedup _ _ edge (rw is at has)),
      λ has. rw is (Contains-dedup laws-law edge_same _ edge (Contains-permutation _ _ edge moved has)),
    )
