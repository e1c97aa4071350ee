use Rattle.std.proofs.Common.{of_calls, rules}
use Rattle.std.specs.Ordering.{is_lt}
use Rattle.std.proofs.lemmas.Fn.{always_returns_same}
use Rattle.std.proofs.lemmas.List.Sorted.{ranks_by}
use Rattle.hprof_suspects.specs.SuspectPlaces.{suspect_place_cmp}
use Rattle.hprof_suspects.specs.declared.suspects.SuspectPlace.{SuspectPlace}
use Rattle.hprof_suspects.proofs.SuspectOrder.{suspects_total}
use Rattle.hprof_suspects.proofs.suspects.sort_suspects.Goals as goal

pub returns-clause-sorted : goal.returns-clause-sorted
returns-clause-sorted c =
    c.sort_unstable_by.ensures.sorted (λ (one other : SuspectPlace). is_lt (suspect_place_cmp one other))
    (ranks_by suspects_total (λ (suspect : SuspectPlace). suspect)) (always_returns_same _ _ _ (λ a r f k. search (rules, of_calls)))
