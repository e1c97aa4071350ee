use Rattle.std.proofs.Common.{◌≡◌, ◌++◌, codes, sym, ◌∙◌}
use Rattle.std.specs.String.{string_bytes}
use Rattle.hprof_naming.proofs.Namings.{of_text}
use Rattle.hprof_holders.specs.Steps.{step_kind}
use Rattle.hprof_holders.proofs.StepWords.{named_kind, plain_kind}
use Rattle.hprof_holders.proofs.steps.step_kind.Goals as goal

pub returns-in_ok-name-in-Some : goal.returns-in_ok-name-in-Some
returns-in_ok-name-in-Some c = λ naming edges is name_is weak_is.
    let step = c.args.step in
    let weak = c.weak_word-weak.result.now in
    let word = c.via_word-word.result.now in
    let name = string_bytes c.in_ok-name-in-Some.name in
    of_text (λ text. string_bytes text ≡ weak ++ (word ++ (codes " " ++ name)))
    (λ text. string_bytes text ≡ step_kind naming edges step.edge) c.format.result
    (λ text e. e ∙ named_kind naming edges step.edge step.is_weak weak_is weak word c.weak_word-weak.ensures c.via_word-word.ensures
    c.in-Some.name name (sym c.in-Some.is ∙ name_is) (c.in_ok-name-in-Some.ensures.named naming is))
    c.format.ensures.ok

pub returns-in-None : goal.returns-in-None
returns-in-None c = λ naming edges is name_is weak_is.
    let step = c.args.step in
    let weak = c.weak_word-weak.result.now in
    let word = c.via_word-word.result.now in
    of_text (λ text. string_bytes text ≡ weak ++ word)
    (λ text. string_bytes text ≡ step_kind naming edges step.edge) c.format-in-None.result
    (λ text e. e ∙ plain_kind naming edges step.edge step.is_weak weak_is weak word c.weak_word-weak.ensures c.via_word-word.ensures
    (sym c.in-None.is ∙ name_is))
    c.format-in-None.ensures.ok
