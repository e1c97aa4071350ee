use Rattle.std.proofs.Common.{ℕ, List, [], None, refl}
use Rattle.std.specs.Prelude.{IsSome}
use Rattle.hprof_stored.proofs.Untold.{untold_again}
use Rattle.hprof_worked_calls.proofs.stored.asked_so.Goals as goal

pub ask_stored-answer-requires-clause-again : goal.ask_stored-answer-requires-clause-again
ask_stored-answer-requires-clause-again c = λ some told tell. absurd (let no : IsSome {T = List ℕ} None =
    (untold_again _ _ [] None (λ reader. refl) some told tell).1 in cc)
