use Rattle.std.proofs.lemmas.List.Filters.{dedup_is}
use Rattle.std.proofs.lemmas.List.Kept.{IsStrictlySortedBy-dedup, Contains-dedup, Contains-from_dedup}
use Rattle.std.proofs.lemmas.List.Sorted.{Contains-permutation, IsPermutation-sym}
use Rattle.hprof_threads.specs.contracts.held.HeldOrd.TheImpl.Laws.{total-law, matches_eq-law}
use Rattle.hprof_threads.specs.contracts.held.HeldEq.TheImpl.Laws.{laws-law}
use Rattle.hprof_threads.proofs.HeldEquality.{held_same}
use Rattle.hprof_threads.proofs.held.sort_held.Goals as goal

pub returns-clause-ascend : goal.returns-clause-ascend
returns-clause-ascend c =
    let is = dedup_is _ _ _ c.dedup.ensures.filtered in
    rw is (IsStrictlySortedBy-dedup total-law matches_eq-law _ c.sort_unstable.ensures.sorted)

pub returns-clause-same : goal.returns-clause-same
returns-clause-same c =
    let is = dedup_is _ _ _ c.dedup.ensures.filtered in
    let moved = c.sort_unstable.ensures.permutation in
    λ held. (
      λ has. Contains-permutation _ _ held (IsPermutation-sym _ _ moved) (Contains-from_dedup _ _ held (rw is at has)),
      λ has. rw is (Contains-dedup laws-law held_same _ held (Contains-permutation _ _ held moved has)),
    )
