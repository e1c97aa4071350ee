use Rattle.std.proofs.Common.{ℕ, List, [], None, refl}
use Rattle.std.specs.Prelude.{IsSome}
use Rattle.hprof_stored.proofs.Untold.{untold_again}
use Rattle.hprof_worked_calls.proofs.stored.answer_stored.Goals as goal

pub join_stored-answer-requires-clause-again : goal.join_stored-answer-requires-clause-again
join_stored-answer-requires-clause-again c = λ some told tell. absurd (let no : IsSome {T = List ℕ} None =
    (untold_again _ _ [] None (λ reader. refl) some told tell).1 in cc)

pub salvage_stored-answer-requires-clause-again : goal.salvage_stored-answer-requires-clause-again
salvage_stored-answer-requires-clause-again c = λ some told tell. absurd (let no : IsSome {T = List ℕ} None =
    (untold_again _ _ [] None (λ reader. refl) some told tell).1 in cc)

pub join101_stored-answer-requires-clause-again : goal.join101_stored-answer-requires-clause-again
join101_stored-answer-requires-clause-again c = λ some told tell. absurd (let no : IsSome {T = List ℕ} None =
    (untold_again _ _ [] None (λ reader. refl) some told tell).1 in cc)

pub make_stored-answer-requires-clause-again : goal.make_stored-answer-requires-clause-again
make_stored-answer-requires-clause-again c = λ some told tell. absurd (let no : IsSome {T = List ℕ} None =
    (untold_again _ _ [] None (λ reader. refl) some told tell).1 in cc)
