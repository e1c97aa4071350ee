use Rattle.std.proofs.Common.{ℕ, List, [], None, refl}
use Rattle.std.specs.Prelude.{IsSome}
use Rattle.hprof_stored.proofs.Untold.{untold_again}
use Rattle.hprof_worked_calls.proofs.stored.compare_stored.Goals as goal

pub count_stored-requires-clause-again : goal.count_stored-requires-clause-again
count_stored-requires-clause-again c = λ some told tell. absurd (let no : IsSome {T = List ℕ} None =
    (untold_again _ _ [] None (λ reader. refl) some told tell).1 in cc)

pub make_stored-requires-clause-again : goal.make_stored-requires-clause-again
make_stored-requires-clause-again c = λ some told tell. absurd (let no : IsSome {T = List ℕ} None =
    (untold_again _ _ [] None (λ reader. refl) some told tell).1 in cc)
