-- What a status tells of what it ended.
use Rattle.std.proofs.Common.{◌≡◌, Option, Some, Result, Ok, Err, sym, subst}
use Rattle.std.specs.Prelude.{IfOk, IfErr, OnErr, MatchResult}
use Rattle.hprof_tool.specs.declared.program.refused.Refused.{Refused}
use Rattle.hprof_tool.specs.declared.program.refused.Stopped.{Stopped}
use Rattle.hprof_tool.specs.declared.program.answers.Ended.{Ended}
use Rattle.hprof_tool.specs.declared.status.Status.TheVariants as statuses

-- done comes of Ok alone, so what Ok says holds of the stream that was written to
pub done_of_stream : {O W : Type 0} (P : O → Type 0) (outcome : Result O (Stopped O)) (ended : Ended O W) → IfOk outcome P
    → MatchResult outcome (λ _. ended.status ≡ statuses.Done) (λ _. ended.status ≡ statuses.Refused)
    → MatchResult outcome (λ written. ended.output ≡ Some written) (λ stopped. ended.output ≡ stopped.writer)
    → ended.status ≡ statuses.Done → (x : O) × (ended.output ≡ Some x) × P x
done_of_stream P (Ok x) ended holds status output done = (x, output, holds)
done_of_stream P (Err stopped) ended holds status output done = absurd cc

-- refused comes of Err alone, and so says what that says, of what is left of the stream, and is told
pub refused_of_stream : {O W : Type 0} (Q : Refused → Option O → Type 0) (T : Refused → Type 0) (outcome : Result O (Stopped O))
    (ended : Ended O W) → IfErr outcome (λ stopped. Q stopped.why stopped.writer)
    → MatchResult outcome (λ _. ended.status ≡ statuses.Done) (λ _. ended.status ≡ statuses.Refused)
    → MatchResult outcome (λ written. ended.output ≡ Some written) (λ stopped. ended.output ≡ stopped.writer)
    → IfErr outcome (λ stopped. T stopped.why) → ended.status ≡ statuses.Refused → (why : Refused) × Q why ended.output × T why
refused_of_stream Q T (Ok x) ended says status output told refused = absurd cc
refused_of_stream Q T (Err stopped) ended says status output told refused =
    (stopped.why, subst (Q stopped.why) (sym output) says, told)

-- what follows from what holds at Ok, or at Err
pub if_ok_more : {A E : Type 0} (P Q : A → Type 0) (outcome : Result A E) → ((x : A) → P x → Q x) → IfOk outcome P → IfOk outcome Q
if_ok_more P Q (Ok x) more holds = more x holds
if_ok_more P Q (Err e) more holds = tt

pub if_err_more : {A E : Type 0} (P Q : E → Type 0) (outcome : Result A E) → ((e : E) → P e → Q e) → IfErr outcome P → IfErr outcome Q
if_err_more P Q (Ok x) more holds = tt
if_err_more P Q (Err e) more holds = more e holds

-- what holds at Err holds there together
pub if_err_both : {A E : Type 0} (P Q : E → Type 0) (outcome : Result A E) → IfErr outcome P → IfErr outcome Q
    → IfErr outcome (λ e. P e × Q e)
if_err_both P Q (Ok x) one other = tt
if_err_both P Q (Err e) one other = (one, other)

-- what holds holds at an error, too
pub on_an_error : {A E : Type 0} (P : Type 0) (outcome : Result A E) → P → OnErr outcome P
on_an_error P (Ok x) holds = tt
on_an_error P (Err e) holds = holds
